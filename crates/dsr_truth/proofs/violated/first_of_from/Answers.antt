use Rattle.std.proofs.lemmas.Grind.{elements}
use Rattle.std.proofs.Common.{◌≡◌, false, true, arith}
use Rattle.dsr_model.specs.Facts.{IsInModel}
use Rattle.dsr_truth.proofs.Satisfying.{found_at}
use Rattle.dsr_truth.proofs.Searching.{from_later}
use Rattle.dsr_truth.proofs.violated.first_of_from.Goals as goal

pub returns : goal.returns
returns c =
    let constraints = c.args.spec.now.constraints in
    let constraint = c.in_ok-constraint.constraint.now in
    let lookup = c.in_ok-constraint.ensures.lookup in
    let declared =
    found_at constraints c.items.result.now c.args.number constraint c.items.ensures lookup.3.0 lookup.1 in
    from_later (IsInModel c.args.model.now) c.args.spec.now c.args.number constraint declared c.args.binding.now
    (λ here. let both : false ≡ true = c.if-is_violated.ensures.1 here in cc)
    c.next_violated.result c.next_violated.ensures

pub returns-in_err-constraint : goal.returns-in_err-constraint
returns-in_err-constraint c = grind (arith, elements)

pub returns-then-is_violated : goal.returns-then-is_violated
returns-then-is_violated c = grind (arith, elements)

pub next_violated-requires-clause-kind : goal.next_violated-requires-clause-kind
next_violated-requires-clause-kind c = grind (arith, elements)
