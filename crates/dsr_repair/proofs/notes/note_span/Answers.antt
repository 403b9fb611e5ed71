-- One byte after the other.
use Rattle.std.proofs.Common.{◌≡◌, ◌+◌, ◌-◌, ◌++◌, ◌∷◌, [], ◌∙◌, ap}
use Rattle.dsr_repair.specs.Notes.{note_of, notes_of}
use Rattle.dsr_repair.proofs.Noting.{notes_next}
use Rattle.dsr_repair.proofs.notes.note_span.Goals as goal

pub loop-place-preserved : goal.loop-place-preserved
loop-place-preserved g c =
    let bytes = g.I.ImageBytes.bytes c.args.image.now in
    let notes = c.loop-place.notes.items in
    let place = c.loop-place.place in
    let more : c.push.new.self.items ≡ notes ++ note_of bytes place ∷ [] =
    c.in_ok-push.ensures.items ∙ ap (λ b. notes ++ record { place = place; old = b; new = b } ∷ []) c.byte-byte.ensures in
    let left : c.push.new.self.items ++ notes_of bytes (place + 1) (c.args.span.end - (place + 1)) ≡ notes ++ notes_of bytes place (c.args.span.end - place) =
    ap (λ ns. ns ++ notes_of bytes (place + 1) (c.args.span.end - (place + 1))) more ∙ notes_next bytes notes place c.args.span.end c.loop-place-test.true in
    left ∙ c.loop-place.invariant
