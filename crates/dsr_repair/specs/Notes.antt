-- Bytes that are noted before they are written.
use Rattle.std.specs.Prelude.{◌≡◌, ◌≤◌, ◌<◌, ℕ, suc, nat_eq, Bool, not, List, [], ◌∷◌, length, map, slice_index}
use Rattle.std.specs.List.{filter, range_with_len}
use Rattle.dsr_repair.specs.Spans.{IsClear}
use Rattle.dsr_repair.specs.declared.spans.Span.{Span}
use Rattle.dsr_repair_theory.specs.declared.entries.ByteChange.{ByteChange}

-- a byte, as it is
abbrev pub note_of : List ℕ → ℕ → ByteChange
note_of bytes place =
    record { place = place; old = slice_index bytes place; new = slice_index bytes place }

-- so many bytes from one on
abbrev pub notes_of : List ℕ → ℕ → ℕ → List ByteChange
notes_of bytes place count = map (note_of bytes) (range_with_len place count)

-- the note is one of the next byte from a place on that is in one of the spans
pub record IsNote (spans : List Span) (bytes : List ℕ) (place : ℕ) (note : ByteChange)
    : Type 0 where
  pub from : place ≤ note.place
  pub before : (j : ℕ) → place ≤ j → j < note.place → IsClear spans j
  pub below : note.place < length bytes
  pub old_is : note.old ≡ slice_index bytes note.place

-- by rising place, each byte from a place on that is in one of the spans is noted
abbrev pub AreNoted : List Span → List ℕ → ℕ → List ByteChange → Type 0
AreNoted spans bytes place [] = (j : ℕ) → place ≤ j → IsClear spans j
AreNoted spans bytes place (note ∷ notes) =
    IsNote spans bytes place note × AreNoted spans bytes (suc note.place) notes

-- the note, with the byte that stands there now
abbrev pub renewed : List ℕ → ByteChange → ByteChange
renewed bytes note =
    record { place = note.place; old = note.old; new = slice_index bytes note.place }

abbrev pub is_change : ByteChange → Bool
is_change note = not (nat_eq note.old note.new)

-- those of the noted bytes that are others now
abbrev pub changed : List ℕ → List ByteChange → List ByteChange
changed bytes notes = filter is_change (map (renewed bytes) notes)
