-- The noted bytes as they are now, of which those that are others are kept.
use Rattle.std.proofs.Common.{◌<◌, ◌∙◌, ap, get_or, length, arith, rules}
use Rattle.std.proofs.lemmas.Fn.{filter_same}
use Rattle.std.proofs.lemmas.List.Elements.{All-set}
use Rattle.std.specs.List.{filter}
use Rattle.dsr_repair.specs.Notes.{is_change}
use Rattle.dsr_repair.proofs.Noting.{all_renewed, renewed_more}
use Rattle.dsr_repair_theory.specs.declared.entries.ByteChange.{ByteChange}
use Rattle.dsr_repair.proofs.notes.keep_changed.Goals as goal

pub loop-note-preserved : goal.loop-note-preserved
loop-note-preserved g c =
    let bytes = g.I.ImageBytes.bytes c.args.image.now in
    let first = c.deref_mut-note-items.result.now in
    let notes = c.loop-note.note-items in
    let i = c.loop-note.note-index in
    let none : ByteChange = record { place = 0; old = 0; new = 0 } in
    let within : i < length first = omega (arith, c.loop-note.auto.note-items, c.loop-note-test.true) in
    let inside : i < length notes = omega (arith, c.loop-note.auto.note-items, c.loop-note-test.true) in
    record {
      items = renewed_more bytes first notes i c.byte-note.result none within inside c.loop-note.invariant.items c.byte-note.ensures;
      below = All-set (λ (n : ByteChange). n.place < length bytes) notes i (record { place = (get_or notes i none).place; old = (get_or notes i none).old; new = c.byte-note.result })
          (c.loop-note.invariant.below i none inside) c.loop-note.invariant.below;
    }

pub returns : goal.returns
returns g c =
    filter_same _ is_change _ (λ x b f' k. search rules) _ _ c.retain.ensures.filtered
    ∙ ap (filter is_change)
    (all_renewed (g.I.ImageBytes.bytes c.args.image.now) c.args.notes.now.items c.deref_mut-note-items.result.now c.loop-note.note-items c.loop-note.note-index c.args.notes.now.len
    c.deref_mut-note-items.ensures.value (omega (arith, c.args.notes.now.ok)) c.loop-note.invariant.items c.loop-note-test.false)
