use Rattle.std.proofs.Common.{[], ◌∷◌, arith}
use Rattle.std.proofs.lemmas.Result.{err_from_is_err_and}
use Rattle.dsr_cert.proofs.Numbers.{kind_high, kind_low, template_number}
use Rattle.dsr_cert.proofs.Ranks.{none_all, none_more, none_yet, tells_found}
use Rattle.dsr_cert.specs.Searches.{kind_of}
use Rattle.dsr_cert.proofs.flaws.Chosen.check_templates.Goals as goal

pub loop-constraint-init : goal.loop-constraint-init
loop-constraint-init c = none_yet c.args.self.now.spec.now c.args.self.now.choice.now (kind_of c.args.wrong ∷ [])

pub returns-in_err-check_row : goal.returns-in_err-check_row
returns-in_err-check_row c =
    let p = err_from_is_err_and c.from_residual.result c.from_residual.ensures.1 in
    rw (p.1, p.2) (tells_found c.args.self.now.spec.now c.args.self.now.choice.now (kind_of c.args.wrong ∷ []) c.loop-constraint.constraint c.in_err-check_row.field-0.0 c.loop-constraint.invariant c.in_err-check_row.ensures)

pub loop-constraint-preserved : goal.loop-constraint-preserved
loop-constraint-preserved c = none_more c.args.self.now.spec.now c.args.self.now.choice.now (kind_of c.args.wrong ∷ []) c.loop-constraint.constraint c.in_ok-check_row.ensures c.loop-constraint.invariant

pub returns : goal.returns
returns c =
    let past = c.loop-constraint-test.false in
    none_all c.args.self.now.spec.now c.args.self.now.choice.now (kind_of c.args.wrong ∷ []) 128 (template_number c.args.self.now.spec.now c.requires.typed c.args.self.now.choice.now (kind_of c.args.wrong) (kind_low c.args.wrong) (kind_high c.args.wrong)) (λ k less. c.loop-constraint.invariant k (omega (arith, past, less)))
