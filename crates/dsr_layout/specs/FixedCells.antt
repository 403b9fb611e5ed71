-- The cells of fixed fields, with clipped bits.
use Rattle.std.specs.Prelude.{◌≤◌, ◌+◌, ◌*◌, ℕ, List, [], ◌∷◌, take, Option, None, slice_get, option_map, option_and_then, if◌then◌else◌}
use Rattle.dsr_ir.specs.declared.declarations.Field.{Field}
use Rattle.dsr_ir.specs.declared.declarations.Order.{Order}
use Rattle.dsr_ir.specs.declared.layouts.Cell.{Cell}
use Rattle.dsr_meaning.specs.FixedFields.{is_fixed, cell_at}
use Rattle.dsr_meaning.specs.Places.{bit_behind_fields}
use Rattle.dsr_layout.specs.Tables.{known, clip}

-- the cell of a field that begins at a bit, where it is a fixed one
abbrev pub cell_from : Order → Option ℕ → Field → Option Cell
cell_from order bit f = if is_fixed f then option_map (cell_at order f) bit else None

-- the clipped bit behind a field whose length is a number
abbrev pub next_bit : Option ℕ → Field → Option ℕ
next_bit bit f =
    option_and_then (λ b. option_map clip (bit_behind_fields (known []) b (f ∷ []))) bit

-- the clipped cell of one of several fields that follow each other from a bit on
abbrev pub clipped_cell : Order → Option ℕ → List Field → ℕ → Option Cell
clipped_cell order start fields k =
    option_and_then
    (λ f. cell_from order
    (option_and_then (λ s. option_map clip (bit_behind_fields (known []) s (take k fields))) start)
    f)
    (slice_get fields k)

-- the cell lies in so many bytes, and its value has 64 bits at most
pub record IsReadable (bytes : ℕ) (cell : Cell) : Type 0 where
  pub within : cell.bit + cell.width ≤ 8 * bytes
  pub narrow : cell.width ≤ 64
