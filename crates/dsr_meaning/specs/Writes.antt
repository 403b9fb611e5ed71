-- Ranges of bits that share none, and what a write to a cell leaves.
use Rattle.std.specs.Prelude.{◌≡◌, ◌≤◌, ◌<◌, ◌+◌, ◌⊎◌, ℕ, List, length, slice_index}
use Rattle.dsr_ir.specs.declared.layouts.Cell.{Cell}
use Rattle.dsr_meaning.specs.Cells.{bit_of, cell_value, IsFieldCell}

-- each entry is below 256; behind the last one stands 0
abbrev pub AreBytes : List ℕ → Type 0
AreBytes bytes = (at : ℕ) → slice_index bytes at < 256

-- the range from a bit on, so wide, has the bit j
pub record IsBitOf (bit width j : ℕ) : Type 0 where
  pub from : bit ≤ j
  pub before : j < bit + width

-- of two ranges of bits, each from a bit on and so wide, one ends where or before the other begins
abbrev pub AreBitsApart : ℕ → ℕ → ℕ → ℕ → Type 0
AreBitsApart a m b n = (a + m ≤ b) ⊎ (b + n ≤ a)

-- the same of two cells
abbrev pub AreCellsApart : Cell → Cell → Type 0
AreCellsApart c d = AreBitsApart c.bit c.width d.bit d.width

-- every bit of the cell stays
abbrev pub HasSameBits : Cell → List ℕ → List ℕ → Type 0
HasSameBits cell old new =
    (j : ℕ) → cell.bit ≤ j → j < cell.bit + cell.width → bit_of new j ≡ bit_of old j

-- every bit outside of a range stays
abbrev pub OthersStay : ℕ → ℕ → List ℕ → List ℕ → Type 0
OthersStay bit width old new = (j : ℕ) → (j < bit) ⊎ (bit + width ≤ j) → bit_of new j ≡ bit_of old j

-- the cell has the value, and every bit outside of it and the length are as before
pub record Puts (cell : Cell) (value : ℕ) (old new : List ℕ) : Type 0 where
  pub got : cell_value new cell ≡ value
  pub others : OthersStay cell.bit cell.width old new
  pub length : length new ≡ length old

-- each cell that shares no bit with the cell keeps its value
abbrev pub BesideStay : Cell → List ℕ → List ℕ → Type 0
BesideStay cell old new =
    (other : Cell) → IsFieldCell other → AreCellsApart other cell
    → cell_value new other ≡ cell_value old other
