-- The bytes up to the place are noted.
use Rattle.std.proofs.Common.{List, ◌-◌, ◌++◌, length}
use Rattle.dsr_repair.specs.Notes.{AreNoted}
use Rattle.dsr_repair_theory.specs.declared.entries.ByteChange.{ByteChange}
use Rattle.dsr_repair.proofs.notes.note_all.Given as goal

abbrev pub invariant-loop-span : goal.invariant-loop-span
invariant-loop-span g l = (rest : List ByteChange) → AreNoted l.spans (g.I.ImageBytes.bytes l.image) l.from rest
    → AreNoted l.spans (g.I.ImageBytes.bytes l.image) 0 (l.notes.items ++ rest)

abbrev pub decreases-loop-span : goal.decreases-loop-span
decreases-loop-span g l = length (g.I.ImageBytes.bytes l.image) - l.from
