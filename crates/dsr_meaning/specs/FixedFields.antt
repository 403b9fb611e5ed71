-- The fixed fields, whose values the expressions of a layout read.
use Rattle.std.specs.Prelude.{ℕ, Bool, ◌&&◌, List, [], ◌∷◌, take, Option, None, Some, is_none, slice_get, option_map, option_and_then, if◌then◌else◌}
use Rattle.dsr_ir.specs.declared.declarations.Field.{Field}
use Rattle.dsr_ir.specs.declared.declarations.Structure.{Structure}
use Rattle.dsr_ir.specs.declared.declarations.Structures.{Structures}
use Rattle.dsr_ir.specs.declared.declarations.Order.{Order}
use Rattle.dsr_ir.specs.declared.layouts.Cell.{Cell}
use Rattle.dsr_meaning.specs.Cells.{width_bits, is_bytewise, cell_value}
use Rattle.dsr_meaning.specs.Places.{lineage, end_of, bit_behind_fields}

-- no fixed field has a value yet: only lengths that are numbers stand before a fixed field
abbrev pub no_values : ℕ → Option ℕ
no_values field = None

-- the bit at which one of a structure's own fields begins, where the lengths before it are numbers
abbrev pub own_bit : List Structure → ℕ → Option ℕ
own_bit [] k = None
own_bit (s ∷ ancestors) k =
    option_and_then (λ start. bit_behind_fields no_values start (take k s.fields)) (end_of no_values ancestors)

-- the fields that `Head` itself declares
abbrev pub head_fields : Structures → List Field
head_fields base = own_fields (slice_get base.structures base.head) where
  own_fields : Option Structure → List Field
  own_fields None = []
  own_fields (Some s) = s.fields

-- whether a field is a fixed one; no array is
abbrev pub is_fixed : Field → Bool
is_fixed f = f.fixed && is_none f.len

abbrev pub cell_at : Order → Field → ℕ → Cell
cell_at order f bit =
    record { bit = bit; width = width_bits f.width; bytewise = is_bytewise f.width; order = order }

-- the cell of a fixed field, by its number among the fields that `Head` itself declares
abbrev pub fixed_cell : Structures → ℕ → Option Cell
fixed_cell base k =
    option_and_then
    (λ f. if is_fixed f
    then option_map (cell_at base.order f) (own_bit (lineage base.structures base.head) k)
    else None)
    (slice_get (head_fields base) k)

-- the value of a fixed field
abbrev pub fixed_value : Structures → List ℕ → ℕ → Option ℕ
fixed_value base bytes k = option_map (cell_value bytes) (fixed_cell base k)
