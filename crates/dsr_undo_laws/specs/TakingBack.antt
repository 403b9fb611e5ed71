-- Taking back what entries tell: the entries from the last to the first, and of each the lines of
-- bytes from the last to the first.
use Rattle.std.specs.Prelude.{◌≡◌, ◌≢◌, ◌<◌, ◌+◌, ◌*◌, ◌/◌, ◌%◌, ◌^◌, ℕ, suc, List, [], ◌∷◌, Some, slice_get, slice_set}
use Rattle.dsr_ir.specs.declared.declarations.Structures.{Structures}
use Rattle.dsr_ir.specs.declared.layouts.Cell.{Cell}
use Rattle.dsr_meaning.specs.FixedFields.{fixed_cell}
use Rattle.dsr_meaning.specs.Writes.{IsBitOf}
use Rattle.dsr_repair_theory.specs.declared.entries.ByteChange.{ByteChange}
use Rattle.dsr_repair_theory.specs.declared.entries.Entry.{Entry}
use Rattle.dsr_undo_laws.specs.declared.faults.UndoFault.{UndoFault}
use Rattle.dsr_undo_laws.specs.declared.faults.UndoFault.TheVariants.{Byte, FixedField}

-- the line's two bytes differ in a bit of a fixed field
pub record ChangesFixed (base : Structures) (line : ByteChange) : Type 0 where
  pub field : ℕ
  pub cell : Cell
  pub cell_is : fixed_cell base field ≡ Some cell
  pub bit : ℕ
  pub in_byte : bit < 8
  pub of : IsBitOf cell.bit cell.width (8 * line.place + bit)
  pub differs : line.new / 2 ^ bit % 2 ≢ line.old / 2 ^ bit % 2

-- the line's new byte stands at its place
abbrev pub IsThere : ByteChange → List ℕ → Type 0
IsThere line bytes = slice_get bytes line.place ≡ Some line.new

-- it does, the line changes no bit of a fixed field, and its old byte is put there
pub record IsLineBack (base : Structures) (line : ByteChange) (bytes new : List ℕ)
    : Type 0 where
  pub there : IsThere line bytes
  pub unfixed : ChangesFixed base line → ⊥
  pub put : new ≡ slice_set bytes line.place line.old

-- the lines are taken back, the last first
pub data AreLinesBack (base : Structures) : List ByteChange → List ℕ → List ℕ → Type 0 where
  none : {bytes : List ℕ} → AreLinesBack base [] bytes bytes
  then_line :
      {rest : List ByteChange} {bytes middle new : List ℕ} → (line : ByteChange)
      → AreLinesBack base rest bytes middle → IsLineBack base line middle new
      → AreLinesBack base (line ∷ rest) bytes new

-- the entries are taken back, the last first
pub data AreTakenBack (base : Structures) : List Entry → List ℕ → List ℕ → Type 0 where
  none : {bytes : List ℕ} → AreTakenBack base [] bytes bytes
  then_entry :
      {rest : List Entry} {bytes middle new : List ℕ} → (entry : Entry)
      → AreTakenBack base rest bytes middle → AreLinesBack base entry.bytes middle new
      → AreTakenBack base (entry ∷ rest) bytes new

-- ---- refusals

-- the line of the entry with this number can't be taken back
pub data IsLineRefused (base : Structures) (entry : ℕ) (line : ByteChange) (bytes : List ℕ)
    : UndoFault → Type 0 where
  byte : (IsThere line bytes → ⊥) → IsLineRefused base entry line bytes (Byte entry line.place)
  fixed :
      IsThere line bytes → ChangesFixed base line
      → IsLineRefused base entry line bytes (FixedField entry line.place)

-- the lines behind one are taken back, which can't be
pub data IsRefusedIn (base : Structures) (entry : ℕ)
    : List ByteChange → List ℕ → List ℕ → UndoFault → Type 0 where
  here :
      {rest : List ByteChange} {bytes new : List ℕ} {fault : UndoFault} → (line : ByteChange)
      → AreLinesBack base rest bytes new → IsLineRefused base entry line new fault
      → IsRefusedIn base entry (line ∷ rest) bytes new fault
  behind :
      {rest : List ByteChange} {bytes new : List ℕ} {fault : UndoFault} → (line : ByteChange)
      → IsRefusedIn base entry rest bytes new fault
      → IsRefusedIn base entry (line ∷ rest) bytes new fault

-- the entries behind one are taken back, and of that one the lines behind one which can't be;
-- entries have numbers from this one on
pub data IsRefused (base : Structures)
    : ℕ → List Entry → List ℕ → List ℕ → UndoFault → Type 0 where
  here :
      {first : ℕ} {rest : List Entry} {bytes middle new : List ℕ} {fault : UndoFault}
      → (entry : Entry) → AreTakenBack base rest bytes middle
      → IsRefusedIn base first entry.bytes middle new fault
      → IsRefused base first (entry ∷ rest) bytes new fault
  behind :
      {first : ℕ} {rest : List Entry} {bytes new : List ℕ} {fault : UndoFault}
      → (entry : Entry) → IsRefused base (suc first) rest bytes new fault
      → IsRefused base first (entry ∷ rest) bytes new fault
