use Rattle.std.proofs.Common.{◌≡◌, [], Some, length, slice_get, sym, ap, subst, ◌∙◌, arith}
use Rattle.std.proofs.lemmas.Option.{slice_get_within}
use Rattle.dsr_compensate.proofs.Each.{item_at, length_more}
use Rattle.dsr_placement.specs.Atoms.{row_at}
use Rattle.dsr_placement.proofs.Marks.{each_index, parts_of}
use Rattle.dsr_placement.specs.Placing.{AreTestsIn, IsLeft}
use Rattle.dsr_placement.proofs.testing.tests.Goals as goal

pub loop-place-preserved : goal.loop-place-preserved
loop-place-preserved c =
    let rows = c.loop-place.rows.items in
    let place = c.loop-place.place in
    let many_rows : length rows ≡ place = c.loop-place.invariant.0 in
    let conjs = c.args.constraint.now.conjs in
    let here : slice_get conjs place ≡ Some c.conj-item.result = subst (λ xs. slice_get xs place ≡ Some c.conj-item.result) c.items-conj-items.ensures (item_at c.items-conj-items.result.now place c.conj-item.result c.loop-place-test.true c.conj-item.is) in
    let pushed = c.in_ok-push.ensures.items in
    let longer = ap length pushed in
    let more = length_more rows c.new.result in (
      omega (arith, longer, more, many_rows),
      λ owner in_graph many same n conj below there.
          let left = IsLeft c.args.left.now in
          let told = subst (AreTestsIn owner left place c.conj-item.result) (sym c.new.ensures) (c.in_ok-marks.ensures owner in_graph many (ap (λ x. slice_get x.conjs place) same ∙ here)) in
          subst (λ ys. AreTestsIn owner left n conj (row_at ys n)) (sym pushed)
          (each_index (λ k x row. AreTestsIn owner left k x row) conjs rows [] c.new.result c.conj-item.result (ap (slice_get conjs) many_rows ∙ here)
          (subst (λ k. AreTestsIn owner left k c.conj-item.result c.new.result) (sym many_rows) told)
          (λ m a less its_there. c.loop-place.invariant.1 owner in_graph many same m a (omega (arith, less, many_rows)) its_there)
          n conj (omega (arith, below, many_rows)) there),
    )

pub returns : goal.returns
returns c = λ owner in_graph many same conj n literal literal_is.
    let parts = parts_of owner.constraint conj n literal literal_is in
    let there : slice_get c.args.constraint.now.conjs conj ≡ Some parts.0 = sym (ap (λ x. slice_get x.conjs conj) same) ∙ parts.1 in
    let past = c.loop-place-test.false in
    let long = ap length c.items-conj-items.ensures in
    let below = slice_get_within c.args.constraint.now.conjs conj parts.0 there in
    c.loop-place.invariant.1 owner in_graph many same conj parts.0 (omega (arith, past, long, below)) there n literal parts.2

pub conj_tests-requires-clause-there : goal.conj_tests-requires-clause-there
conj_tests-requires-clause-there c =
    let place = c.loop-place.place in
    let conjs = c.args.constraint.now.conjs in
    let here : slice_get conjs place ≡ Some c.conj-item.result = subst (λ xs. slice_get xs place ≡ Some c.conj-item.result) c.items-conj-items.ensures (item_at c.items-conj-items.result.now place c.conj-item.result c.loop-place-test.true c.conj-item.is) in
    record { its = c.args.constraint.now; in_graph = c.requires.there; conj_is = here }
