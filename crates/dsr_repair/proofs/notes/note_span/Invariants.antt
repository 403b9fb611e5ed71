-- The bytes up to the place are noted, and those from there on are left.
use Rattle.std.proofs.Common.{◌≡◌, ◌-◌, ◌++◌}
use Rattle.dsr_repair.specs.Notes.{notes_of}
use Rattle.dsr_repair.proofs.notes.note_span.Given as goal

abbrev pub invariant-loop-place : goal.invariant-loop-place
invariant-loop-place g l =
    l.notes.items ++ notes_of (g.I.ImageBytes.bytes l.image) l.place (l.place-end - l.place)
    ≡ l.initial.notes.items ++ notes_of (g.I.ImageBytes.bytes l.image) l.fn.span.start (l.fn.span.end - l.fn.span.start)
