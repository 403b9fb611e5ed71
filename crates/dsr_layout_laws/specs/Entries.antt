-- Cells of records.
use Rattle.std.specs.Prelude.{◌≡◌, ℕ, Some}
use Rattle.dsr_ir.specs.declared.declarations.FieldRef.{FieldRef}
use Rattle.dsr_ir.specs.declared.layouts.Cell.{Cell}
use Rattle.dsr_ir.specs.declared.layouts.Layout.{Layout}
use Rattle.dsr_ir.specs.declared.tuples.Element.{Element}
use Rattle.dsr_meaning.specs.Cells.{cell_of}
use Rattle.dsr_meaning.specs.Legal.{HasEntry}

-- the record has the field's entry, and the cell is it
pub record IsEntry (layout : Layout) (e : Element) (field : FieldRef) (index : ℕ) (cell : Cell) : Type 0 where
  pub entry : HasEntry layout e field index
  pub cell_is : cell_of layout e field index ≡ Some cell
