use Rattle.std.proofs.Common.{◌≡◌, Some, refl, ap, ◌∙◌}
use Rattle.std.proofs.lemmas.Option.{slice_get-get_or}
use Rattle.dsr_compensate.proofs.Each.{each_ends, each_more}
use Rattle.dsr_removal.proofs.cycles.place_in.Goals as goal
use Rattle.dsr_meaning.proofs.Items.{place_of}

pub returns-then-other-number : goal.returns-then-other-number
returns-then-other-number c = slice_get-get_or c.args.path.now c.loop-place.place 0 c.loop-place-test.true ∙ ap Some c.if-other-number.true

pub loop-place-preserved : goal.loop-place-preserved
loop-place-preserved c =
    each_more (λ _ other. other ≡ c.args.number → ⊥) c.args.path.now c.loop-place.place _ (slice_get-get_or c.args.path.now c.loop-place.place 0 c.loop-place-test.true)
    c.if-other-number.false c.loop-place.invariant

pub returns : goal.returns
returns c = λ among.
    let its = place_of c.args.path.now c.args.number among in
    each_ends (λ _ other. other ≡ c.args.number → ⊥) c.args.path.now c.loop-place.place c.loop-place-test.false c.loop-place.invariant its.0 c.args.number its.1 refl
