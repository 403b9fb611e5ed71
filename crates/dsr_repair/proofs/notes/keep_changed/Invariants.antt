-- The notes up to this one have the bytes that stand there now.
use Rattle.std.proofs.Common.{◌≡◌, ◌<◌, ◌++◌, All, drop, length, map, take}
use Rattle.dsr_repair.specs.Notes.{renewed}
use Rattle.dsr_repair.proofs.notes.keep_changed.Given as goal

abbrev pub invariant-loop-note : goal.invariant-loop-note
invariant-loop-note g l = record {
  items : l.note-items ≡ map (renewed (g.I.ImageBytes.bytes l.image)) (take l.note-index l.initial.note-items) ++ drop l.note-index l.initial.note-items;
  below : All (λ n. n.place < length (g.I.ImageBytes.bytes l.image)) l.note-items;
}
