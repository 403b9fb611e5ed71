use Rattle.std.proofs.Common.{[], ◌∷◌, arith}
use Rattle.std.proofs.lemmas.Result.{err_from_is_err_and}
use Rattle.dsr_cert.proofs.Numbers.{relying_number}
use Rattle.dsr_cert.proofs.Ranks.{none_all, none_more, none_yet, tells_found}
use Rattle.dsr_cert.proofs.flaws.Chosen.check_reliances.Goals as goal

pub loop-number-init : goal.loop-number-init
loop-number-init c = none_yet c.args.self.now.spec.now c.args.self.now.choice.now (4 ∷ [])

pub returns-in_err-check_reliance : goal.returns-in_err-check_reliance
returns-in_err-check_reliance c =
    let p = err_from_is_err_and c.from_residual.result c.from_residual.ensures.1 in
    rw (p.1, p.2) (tells_found c.args.self.now.spec.now c.args.self.now.choice.now (4 ∷ []) c.loop-number.number c.in_err-check_reliance.field-0.0 c.loop-number.invariant c.in_err-check_reliance.ensures)

pub loop-number-preserved : goal.loop-number-preserved
loop-number-preserved c = none_more c.args.self.now.spec.now c.args.self.now.choice.now (4 ∷ []) c.loop-number.number c.in_ok-check_reliance.ensures c.loop-number.invariant

pub returns : goal.returns
returns c =
    let past = c.loop-number-test.false in
    none_all c.args.self.now.spec.now c.args.self.now.choice.now (4 ∷ []) 128 (relying_number c.args.self.now.spec.now c.requires.typed c.args.self.now.choice.now) (λ k less. c.loop-number.invariant k (omega (arith, past, less)))
