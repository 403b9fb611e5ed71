-- What a log holds.
use Rattle.std.specs.Prelude.{◌≡◌, ◌+◌, ℕ, List, [], ◌∷◌, length, take, drop}
use Rattle.dsr_log.specs.Entries.{entry_of}
use Rattle.dsr_log.specs.declared.logs.Row.{Row}
use Rattle.dsr_repair_theory.specs.declared.entries.ByteChange.{ByteChange}
use Rattle.dsr_repair_theory.specs.declared.entries.CellSet.{CellSet}
use Rattle.dsr_repair_theory.specs.declared.entries.Entry.{Entry}

-- the entries in order, and without memory: how many more can be pushed, and with how many sets and
-- bytes in all
pub record Logged : Type 0 where
  pub entries : List Entry
  pub spare : ℕ
  pub spare_sets : ℕ
  pub spare_bytes : ℕ

-- the entries of these rows: each has the first of those sets and bytes that the ones before left
abbrev pub entries_of : List Row → List CellSet → List ByteChange → List Entry
entries_of [] sets bytes = []
entries_of (row ∷ rows) sets bytes =
    entry_of row.head (take row.sets sets) (take row.bytes bytes)
    ∷ entries_of rows (drop row.sets sets) (drop row.bytes bytes)

-- how many sets the rows have in all
abbrev pub set_count : List Row → ℕ
set_count [] = 0
set_count (row ∷ rows) = row.sets + set_count rows

-- and how many bytes
abbrev pub byte_count : List Row → ℕ
byte_count [] = 0
byte_count (row ∷ rows) = row.bytes + byte_count rows

-- each set and each byte is some row's
pub record AreShared (rows : List Row) (sets : List CellSet) (bytes : List ByteChange)
    : Type 0 where
  pub sets_are : set_count rows ≡ length sets
  pub bytes_are : byte_count rows ≡ length bytes
