use Rattle.std.proofs.Common.{[], ◌∷◌, arith}
use Rattle.std.proofs.lemmas.Result.{err_from_is_err_and}
use Rattle.dsr_cert.proofs.Numbers.{kind_high, kind_low, literal_number}
use Rattle.dsr_cert.proofs.Ranks.{none_all, none_more, none_yet, tells_found}
use Rattle.dsr_cert.specs.Searches.{kind_of}
use Rattle.dsr_cert.proofs.flaws.Chosen.check_conj.Goals as goal

pub loop-literal-init : goal.loop-literal-init
loop-literal-init c = none_yet c.args.self.now.spec.now c.args.self.now.choice.now (kind_of c.args.wrong ∷ c.args.constraint ∷ c.args.conj ∷ [])

pub returns-in_err-check_literal : goal.returns-in_err-check_literal
returns-in_err-check_literal c =
    let p = err_from_is_err_and c.from_residual.result c.from_residual.ensures.1 in
    rw (p.1, p.2) (tells_found c.args.self.now.spec.now c.args.self.now.choice.now (kind_of c.args.wrong ∷ c.args.constraint ∷ c.args.conj ∷ []) c.loop-literal.literal c.in_err-check_literal.field-0.0 c.loop-literal.invariant c.in_err-check_literal.ensures)

pub loop-literal-preserved : goal.loop-literal-preserved
loop-literal-preserved c = none_more c.args.self.now.spec.now c.args.self.now.choice.now (kind_of c.args.wrong ∷ c.args.constraint ∷ c.args.conj ∷ []) c.loop-literal.literal c.in_ok-check_literal.ensures c.loop-literal.invariant

pub returns : goal.returns
returns c =
    let past = c.loop-literal-test.false in
    none_all c.args.self.now.spec.now c.args.self.now.choice.now (kind_of c.args.wrong ∷ c.args.constraint ∷ c.args.conj ∷ []) 8 (literal_number c.args.self.now.spec.now c.requires.typed c.args.self.now.choice.now (kind_of c.args.wrong) (kind_low c.args.wrong) (kind_high c.args.wrong) c.args.constraint c.args.conj) (λ k less. c.loop-literal.invariant k (omega (arith, past, less)))
