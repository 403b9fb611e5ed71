use Rattle.std.proofs.Common.{◌≡◌, ◌∙◌, Some, length, slice_get, sym, ap, subst, arith}
use Rattle.dsr_compensate.proofs.Each.{item_at}
use Rattle.dsr_graph.proofs.Paired.{paired_step, paired_whole}
use Rattle.dsr_graph.specs.Paired.{ArePaired}
use Rattle.dsr_placement.specs.Placing.{IsLeft}
use Rattle.dsr_removal.specs.Taking.{AreTakenIn}
use Rattle.dsr_removal.proofs.taking.all_ways.Goals as goal

pub loop-place-preserved : goal.loop-place-preserved
loop-place-preserved c = λ owner in_graph many same.
    let conjs = c.args.constraint.now.conjs in
    let place = c.loop-place.place in
    let left = IsLeft c.args.left.now in
    let here : slice_get conjs place ≡ Some c.conj-item.result = subst (λ xs. slice_get xs place ≡ Some c.conj-item.result) c.items-conj-items.ensures (item_at c.items-conj-items.result.now place c.conj-item.result c.loop-place-test.true c.conj-item.is) in
    let told = subst (AreTakenIn owner left place c.conj-item.result) (sym c.new.ensures) (c.in_ok-ways.ensures owner in_graph many (ap (λ x. slice_get x.conjs place) same ∙ here)) in
    paired_step (λ n conj ways. AreTakenIn owner left n conj ways) conjs c.loop-place.rows.items c.push.new.self.items place c.conj-item.result c.new.result here c.in_ok-push.ensures.items told (c.loop-place.invariant owner in_graph many same)

pub returns : goal.returns
returns c = λ owner in_graph many same.
    let past = c.loop-place-test.false in
    let long = ap length c.items-conj-items.ensures in
    let left = IsLeft c.args.left.now in
    subst (λ xs. ArePaired (λ n conj ways. AreTakenIn owner left n conj ways) xs c.loop-place.rows.items) (sym (ap (λ x. x.conjs) same))
    (paired_whole (λ n conj ways. AreTakenIn owner left n conj ways) c.args.constraint.now.conjs c.loop-place.rows.items c.loop-place.place (omega (arith, past, long)) (c.loop-place.invariant owner in_graph many same))

pub conj_ways-requires-clause-there : goal.conj_ways-requires-clause-there
conj_ways-requires-clause-there c =
    let conjs = c.args.constraint.now.conjs in
    let place = c.loop-place.place in
    record {
      its = c.args.constraint.now;
      in_graph = c.requires.there;
      conj_is = subst (λ xs. slice_get xs place ≡ Some c.conj-item.result) c.items-conj-items.ensures (item_at c.items-conj-items.result.now place c.conj-item.result c.loop-place-test.true c.conj-item.is);
    }
