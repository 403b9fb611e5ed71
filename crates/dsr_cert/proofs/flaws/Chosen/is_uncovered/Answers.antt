use Rattle.std.proofs.Common.{◌≡◌, ◌∙◌, Some, slice_get, sym, ap, subst, arith}
use Rattle.std.proofs.lemmas.Grind.{elements}
use Rattle.std.specs.Prelude.{option_map}
use Rattle.dsr_cert.proofs.Tested.{uncovered_if}
use Rattle.dsr_compensate.proofs.Each.{item_at}
use Rattle.dsr_cert.proofs.flaws.Chosen.is_uncovered.Goals as goal

pub returns : goal.returns
returns c =
    let n = c.args.number in
    let constraint = c.in-Some.constraint.now in
    let found = c.in-Some.ensures.lookup in
    let constraint_is = subst (λ xs. slice_get xs n ≡ Some constraint) c.items.ensures (item_at c.items.result.now n constraint found.3.0 found.1) in
    let row_is = sym c.row.ensures ∙ ap (option_map (λ r. r.now)) c.in-Some-row.is in
    uncovered_if c.args.self.now.spec.now c.args.self.now.choice.now n constraint c.in-Some-row.row.now (record { constraint_is = constraint_is; row_is = row_is }) c.in_ok-is_covered.field-0
    c.in_ok-is_covered.ensures

pub returns-in_default : goal.returns-in_default
returns-in_default c = grind (arith, elements)
