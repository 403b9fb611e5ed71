-- The bits of fixed fields that a line changes.
use Rattle.std.specs.Prelude.{◌≡◌, ◌≢◌, ◌<◌, ◌+◌, ◌*◌, ◌/◌, ◌%◌, ◌^◌, ℕ, nat_lt, List, [], Option, Some, IfSome, IsSomeAnd, option_map, slice_get, if◌then◌else◌}
use Rattle.std.specs.Option.{option_map_or}
use Rattle.dsr_ir.specs.declared.declarations.Field.{Field}
use Rattle.dsr_ir.specs.declared.declarations.Order.{Order}
use Rattle.dsr_ir.specs.declared.declarations.Structure.{Structure}
use Rattle.dsr_ir.specs.declared.declarations.Structures.{Structures}
use Rattle.dsr_ir.specs.declared.layouts.Cell.{Cell}
use Rattle.dsr_layout.specs.FixedCells.{clipped_cell}
use Rattle.dsr_layout.specs.Tables.{clip, known}
use Rattle.dsr_meaning.specs.FixedFields.{fixed_cell}
use Rattle.dsr_meaning.specs.Places.{end_of, lineage}
use Rattle.dsr_meaning.specs.Writes.{IsBitOf}
use Rattle.dsr_repair_theory.specs.declared.entries.ByteChange.{ByteChange}

-- a structure's ancestors by its parent, which is declared before it
abbrev pub ancestors : List Structure → ℕ → Option ℕ → List Structure
ancestors ss i parent = option_map_or (λ p. if nat_lt p i then lineage ss p else []) parent []

-- the clipped bit at which the own fields begin
abbrev pub start_of : List Structure → ℕ → Option ℕ → Option ℕ
start_of ss i parent = option_map clip (end_of (known []) (ancestors ss i parent))

-- the line's two bytes differ in a bit, which is one of the cell
pub record ChangesBit (cell : Cell) (line : ByteChange) (bit : ℕ) : Type 0 where
  pub of : IsBitOf cell.bit cell.width (8 * line.place + bit)
  pub differs : line.new / 2 ^ bit % 2 ≢ line.old / 2 ^ bit % 2

abbrev pub ChangesCell : Cell → ByteChange → Type 0
ChangesCell cell line = (bit : ℕ) × (bit < 8) × ChangesBit cell line bit

abbrev pub ChangesSome : Option Cell → ByteChange → Type 0
ChangesSome cell line = IsSomeAnd cell (λ c. ChangesCell c line)

-- in a bit of the clipped cell of a fixed field among those that follow each other from the bit on
pub record ChangesOneOf (order : Order) (start : Option ℕ) (fields : List Field) (line : ByteChange)
    : Type 0 where
  pub field : ℕ
  pub cell : Cell
  pub cell_is : clipped_cell order start fields field ≡ Some cell
  pub changes : ChangesCell cell line

-- ---- where fixed fields end

-- the cell's bits that an image may have stand before the end
abbrev pub IsBefore : ℕ → Cell → Type 0
IsBefore end cell = (j : ℕ) → IsBitOf cell.bit cell.width j → j < 2 ^ 32 → j < end

abbrev pub IsSomeBefore : Option Cell → ℕ → Type 0
IsSomeBefore cell end = IfSome cell (IsBefore end)

-- so of each fixed field among those that follow each other from the bit on
abbrev pub AreFixedBefore : Order → Option ℕ → List Field → ℕ → Type 0
AreFixedBefore order start fields end =
    (k : ℕ) (cell : Cell) → clipped_cell order start fields k ≡ Some cell → IsBefore end cell

-- where the head's own fields begin, and a bit behind those of its fixed ones
pub record AreResolved (base : Structures) (start : Option ℕ) (end : ℕ) : Type 0 where
  pub starts :
      (head : Structure) → slice_get base.structures base.head ≡ Some head
      → start ≡ start_of base.structures base.head head.parent
  pub ends : (k : ℕ) (cell : Cell) → fixed_cell base k ≡ Some cell → IsBefore end cell
