-- What a reset leaves: a record with the reset values of its fields, in a slot that is 0 beside
-- them.
use Rattle.std.specs.Prelude.{◌≡◌, ◌*◌, ℕ, List, Some, IsSomeAnd, length}
use Rattle.dsr_layout_laws.specs.Entries.{IsEntry}
use Rattle.dsr_ir.specs.Layouts.{pool_numbers}
use Rattle.dsr_ir.specs.declared.declarations.Field.{Field}
use Rattle.dsr_ir.specs.declared.declarations.FieldRef.{FieldRef}
use Rattle.dsr_ir.specs.declared.declarations.Spec.{Spec}
use Rattle.dsr_ir.specs.declared.layouts.Cell.{Cell}
use Rattle.dsr_ir.specs.declared.layouts.Layout.{Layout}
use Rattle.dsr_ir.specs.declared.tuples.Element.{Element}
use Rattle.dsr_meaning.specs.Cells.{bit_of, cell_value, record_start}
use Rattle.dsr_meaning.specs.Writes.{IsBitOf}
use Rattle.dsr_step_theory.specs.Resets.{reset_number}
use Rattle.dsr_update.specs.Claims.{IsRecordField}

-- the bit is one of the record's slot
abbrev pub IsSlotBit : Layout → Element → ℕ → Type 0
IsSlotBit layout e j =
    IsSomeAnd (pool_numbers layout e.pool) (λ n. IsBitOf (8 * record_start layout e) (8 * n.slot) j)

-- the cell is an entry of a named field of the pool's structure or of one of its ancestors, and
-- this is the field's reset value; gaps have none
pub record IsResetCell (spec : Spec) (layout : Layout) (e : Element) (cell : Cell) (value : ℕ) : Type 0 where
  pub place : FieldRef
  pub field : Field
  pub of_record : IsRecordField spec e place field
  pub value_is : reset_number layout field.kind ≡ Some value
  pub index : ℕ
  pub entry : IsEntry layout e place index cell

-- the bit is one of such a cell
pub record IsResetBit (spec : Spec) (layout : Layout) (e : Element) (j : ℕ) : Type 0 where
  pub cell : Cell
  pub value : ℕ
  pub cell_is : IsResetCell spec layout e cell value
  pub within : IsBitOf cell.bit cell.width j

-- each entry of each named field of the record has the field's reset value, each other bit of the
-- slot is 0, and every bit outside of the slot and the length are as before
pub record IsReset (spec : Spec) (layout : Layout) (e : Element) (old new : List ℕ) : Type 0 where
  pub fields : (cell : Cell) (value : ℕ) → IsResetCell spec layout e cell value → cell_value new cell ≡ value
  pub cleared : (j : ℕ) → IsSlotBit layout e j → (IsResetBit spec layout e j → ⊥) → bit_of new j ≡ 0
  pub others : (j : ℕ) → (IsSlotBit layout e j → ⊥) → bit_of new j ≡ bit_of old j
  pub as_long : length new ≡ length old
