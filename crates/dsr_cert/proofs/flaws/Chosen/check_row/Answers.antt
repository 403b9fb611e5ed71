use Rattle.std.proofs.Common.{[], ◌∷◌, arith}
use Rattle.std.proofs.lemmas.Result.{err_from_is_err_and}
use Rattle.dsr_cert.proofs.Numbers.{kind_high, kind_low, conj_number}
use Rattle.dsr_cert.proofs.Ranks.{none_all, none_more, none_yet, tells_found}
use Rattle.dsr_cert.specs.Searches.{kind_of}
use Rattle.dsr_cert.proofs.flaws.Chosen.check_row.Goals as goal

pub loop-conj-init : goal.loop-conj-init
loop-conj-init c = none_yet c.args.self.now.spec.now c.args.self.now.choice.now (kind_of c.args.wrong ∷ c.args.constraint ∷ [])

pub returns-in_err-check_conj : goal.returns-in_err-check_conj
returns-in_err-check_conj c =
    let p = err_from_is_err_and c.from_residual.result c.from_residual.ensures.1 in
    rw (p.1, p.2) (tells_found c.args.self.now.spec.now c.args.self.now.choice.now (kind_of c.args.wrong ∷ c.args.constraint ∷ []) c.loop-conj.conj c.in_err-check_conj.field-0.0 c.loop-conj.invariant c.in_err-check_conj.ensures)

pub loop-conj-preserved : goal.loop-conj-preserved
loop-conj-preserved c = none_more c.args.self.now.spec.now c.args.self.now.choice.now (kind_of c.args.wrong ∷ c.args.constraint ∷ []) c.loop-conj.conj c.in_ok-check_conj.ensures c.loop-conj.invariant

pub returns : goal.returns
returns c =
    let past = c.loop-conj-test.false in
    none_all c.args.self.now.spec.now c.args.self.now.choice.now (kind_of c.args.wrong ∷ c.args.constraint ∷ []) 16 (conj_number c.args.self.now.spec.now c.requires.typed c.args.self.now.choice.now (kind_of c.args.wrong) (kind_low c.args.wrong) (kind_high c.args.wrong) c.args.constraint) (λ k less. c.loop-conj.invariant k (omega (arith, past, less)))
