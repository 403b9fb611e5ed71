-- The cells of an image and their values.
use Rattle.std.specs.Prelude.{◌≡◌, ◌≤◌, ◌⊎◌, ℕ, zero, suc, ◌+◌, ◌*◌, ◌/◌, ◌%◌, ◌^◌, List, Bool, true, false, Option, length, slice_index, MatchBool, if◌then◌else◌}
use Rattle.std.specs.Option.{option_map, option_map_or}
use Rattle.dsr_ir.specs.Layouts.{pool_numbers, field_place}
use Rattle.dsr_ir.specs.declared.declarations.FieldRef.{FieldRef}
use Rattle.dsr_ir.specs.declared.declarations.Order.{Order}
use Rattle.dsr_ir.specs.declared.declarations.Order.TheVariants.{Little, Big}
use Rattle.dsr_ir.specs.declared.declarations.Width.{Width}
use Rattle.dsr_ir.specs.declared.declarations.Width.TheVariants.{U8, U16, U32, U64, Bits}
use Rattle.dsr_ir.specs.declared.layouts.Cell.{Cell}
use Rattle.dsr_ir.specs.declared.layouts.FieldPlace.{FieldPlace}
use Rattle.dsr_ir.specs.declared.layouts.Layout.{Layout}
use Rattle.dsr_ir.specs.declared.rules.Path.{Path}
use Rattle.dsr_ir.specs.declared.tuples.Element.{Element}

-- bit j of the image is bit j mod 8 of byte j div 8, bit 0 being the least
abbrev pub bit_of : List ℕ → ℕ → ℕ
bit_of bytes j = slice_index bytes (j / 8) / 2 ^ (j % 8) % 2

-- the bits from a place on as a number, the first the least
abbrev pub bits_value : List ℕ → ℕ → ℕ → ℕ
bits_value bytes bit zero = 0
bits_value bytes bit (suc width) = bit_of bytes bit + 2 * bits_value bytes (bit + 1) width

-- the bytes from a place on as a number, in an order
abbrev pub bytes_value : Order → List ℕ → ℕ → ℕ → ℕ
bytes_value order bytes at zero = 0
bytes_value Little bytes at (suc count) =
    slice_index bytes at + 256 * bytes_value Little bytes (at + 1) count
bytes_value Big bytes at (suc count) =
    slice_index bytes at * 256 ^ count + bytes_value Big bytes (at + 1) count

-- the value of a cell
abbrev pub cell_value : List ℕ → Cell → ℕ
cell_value bytes cell =
    if cell.bytewise then bytes_value cell.order bytes (cell.bit / 8) (cell.width / 8)
    else bits_value bytes cell.bit cell.width

-- 8, 16, 32 or 64 bits
abbrev pub IsByteWidth : ℕ → Type 0
IsByteWidth width = (width ≡ 8) ⊎ ((width ≡ 16) ⊎ ((width ≡ 32) ⊎ (width ≡ 64)))

-- the cell is one that a field may have: whole bytes from a byte on, or 1 to 32 bits
abbrev pub IsFieldCell : Cell → Type 0
IsFieldCell cell =
    MatchBool cell.bytewise (IsByteWidth cell.width × (cell.bit % 8 ≡ 0)) ((1 ≤ cell.width) × (cell.width ≤ 32))

-- the cell is such a one, and lies in the image
pub record IsCellOf (bytes : List ℕ) (cell : Cell) : Type 0 where
  pub form : IsFieldCell cell
  pub within : cell.bit + cell.width ≤ 8 * length bytes

-- the bits of an entry
abbrev pub width_bits : Width → ℕ
width_bits U8 = 8
width_bits U16 = 16
width_bits U32 = 32
width_bits U64 = 64
width_bits (Bits n) = n

-- the entry is read byte by byte
abbrev pub is_bytewise : Width → Bool
is_bytewise (Bits n) = false
is_bytewise _ = true

-- the first byte of a record; the head stands at byte 0
abbrev pub record_start : Layout → Element → ℕ
record_start layout e =
    option_map_or (λ n. n.start + e.slot * n.slot) (pool_numbers layout e.pool) 0

-- the cell of an entry of a field at this place, in a record that starts at the byte
abbrev pub placed_cell : Order → ℕ → ℕ → FieldPlace → Cell
placed_cell order start index p =
    record {
      bit = 8 * start + p.bit + index * width_bits p.width;
      width = width_bits p.width;
      bytewise = is_bytewise p.width;
      order = order;
    }

-- the cell of a record's field, at an index where it is an array
abbrev pub cell_of : Layout → Element → FieldRef → ℕ → Option Cell
cell_of layout e field index =
    option_map (placed_cell layout.order (record_start layout e) index) (field_place layout field)

-- the value that a path reads in a record, at the instance's index where the path has one
abbrev pub value_at : Layout → List ℕ → Element → ℕ → Path → Option ℕ
value_at layout bytes e index path =
    option_map (cell_value bytes) (cell_of layout e path.field (if path.indexed then index else 0))
