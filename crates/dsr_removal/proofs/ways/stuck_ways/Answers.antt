use Rattle.std.proofs.Common.{◌≡◌, ◌≤◌, Some, length, slice_get, sym, ap, subst, ◌∙◌, arith}
use Rattle.dsr_compensate.proofs.Each.{item_at}
use Rattle.dsr_placement.specs.Placing.{IsLeft}
use Rattle.dsr_removal.proofs.Beyond.{past_conjs}
use Rattle.dsr_removal.proofs.StuckWays.{no_ways, ways_whole}
use Rattle.dsr_removal.specs.Ways.{AreWaysBefore}
use Rattle.dsr_removal.proofs.ways.stuck_ways.Goals as goal

pub loop-place-init : goal.loop-place-init
loop-place-init c = λ owner in_graph many same. subst (AreWaysBefore owner (IsLeft c.args.left.now) 0 0 0) (sym c.new-ways.ensures.items) (no_ways owner (IsLeft c.args.left.now))

pub loop-place-preserved : goal.loop-place-preserved
loop-place-preserved c = λ owner in_graph many same.
    let place = c.loop-place.place in
    let conjs = c.args.constraint.now.conjs in
    let here : slice_get conjs place ≡ Some c.conj-item.result = subst (λ xs. slice_get xs place ≡ Some c.conj-item.result) c.items-conj-items.ensures (item_at c.items-conj-items.result.now place c.conj-item.result c.loop-place-test.true c.conj-item.is) in
    c.in_ok-add_conj_ways.ensures owner in_graph many (ap (λ x. slice_get x.conjs place) same ∙ here) (c.loop-place.invariant owner in_graph many same)

pub returns : goal.returns
returns c = λ owner in_graph many same.
    let past = c.loop-place-test.false in
    let long = ap length c.items-conj-items.ensures in
    let conjs = ap (λ x. length x.conjs) same in
    let all : length owner.constraint.conjs ≤ c.loop-place.place = omega (arith, past, long, conjs) in
    ways_whole owner (IsLeft c.args.left.now) c.loop-place.place _ (λ m n beyond. past_conjs owner.constraint m n (omega (arith, all, beyond))) (c.loop-place.invariant owner in_graph many same)
