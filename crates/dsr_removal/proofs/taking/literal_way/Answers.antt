use Rattle.std.proofs.Common.{◌≡◌, ◌≤◌, ◌∙◌, ◌+◌, length, slice_get, Some, sym, ap, subst, arith}
use Rattle.std.proofs.Math.Nat.{min-eq_left}
use Rattle.dsr_compensate.proofs.Each.{item_at}
use Rattle.dsr_placement.proofs.Counted.{few_ways}
use Rattle.dsr_placement.specs.Placing.{IsLeft}
use Rattle.dsr_removal.proofs.FirstWays.{first_for, no_such}
use Rattle.dsr_removal.proofs.taking.literal_way.Goals as goal

pub returns-in_ok-template-in-Some-get : goal.returns-in_ok-template-in-Some-get
returns-in_ok-template-in-Some-get c = λ owner in_graph many literal_is.
    let n = c.in-Some.number in
    let found = c.in-Some-get.ensures.lookup in
    let below = found.3.0 in
    let long = ap length c.ways.ensures.ways in
    let few = few_ways c.args.graph.now c.args.at.constraint owner in_graph c.args.at.conj c.args.at.literal in
    let small : n + 1 ≤ 4294967295 = omega (arith, below, long, few) in
    let next : c.way_number.result ≡ n + 1 = c.way_number.ensures ∙ min-eq_left small in
    let there = subst (λ xs. slice_get xs n ≡ Some c.in-Some-get.template.now) c.ways.ensures.ways (item_at c.ways.result.now n c.in-Some-get.template.now below found.1) in
    first_for c.args.graph.now c.args.at owner in_graph (IsLeft c.args.left.now) c.args.literal.now n c.way_number.result c.in_ok-template-in-Some-get.template
    (c.in-Some.ensures owner in_graph many literal_is) next (there ∙ sym (ap Some c.in_ok-template-in-Some-get.ensures))

pub returns-in-None : goal.returns-in-None
returns-in-None c = λ owner in_graph many literal_is.
    let its = c.in-Some.ensures owner in_graph many literal_is in
    absurd (no_such c.args.graph.now c.args.at owner in_graph (IsLeft c.args.left.now) c.args.literal.now c.in-Some.number its (subst (λ xs. length xs ≤ c.in-Some.number) c.ways.ensures.ways c.in-None.ensures.lookup.3))
