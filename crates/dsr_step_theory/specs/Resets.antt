-- The reset of a record that is taken from a supply.
use Rattle.std.specs.Prelude.{ℕ, ◌*◌, true, List, [], ◌∷◌, ◌++◌, map, Option, None, Some, option_map, slice_get}
use Rattle.std.specs.List.{filter_map, flat_map, range_with_len}
use Rattle.std.specs.Option.{option_map_or}
use Rattle.dsr_ir.specs.Layouts.{field_place, pool_numbers}
use Rattle.dsr_ir.specs.declared.declarations.Field.{Field}
use Rattle.dsr_ir.specs.declared.declarations.FieldRef.{FieldRef}
use Rattle.dsr_ir.specs.declared.declarations.Kind.{Kind}
use Rattle.dsr_ir.specs.declared.declarations.Kind.TheVariants.{Number, Refers, Gap}
use Rattle.dsr_ir.specs.declared.declarations.Order.TheVariants.{Little}
use Rattle.dsr_ir.specs.declared.declarations.Structures.{Structures}
use Rattle.dsr_ir.specs.declared.layouts.Cell.{Cell}
use Rattle.dsr_ir.specs.declared.layouts.Layout.{Layout}
use Rattle.dsr_ir.specs.declared.tuples.Element.{Element}
use Rattle.dsr_meaning.specs.Cells.{cell_of, record_start}
use Rattle.dsr_meaning.specs.Legal.{entry_count}
use Rattle.dsr_meaning.specs.Lists.{each_at}
use Rattle.dsr_meaning.specs.Typed.{ancestors, pool_at}

-- a byte as a cell
abbrev pub byte_cell : ℕ → Cell
byte_cell at = record { bit = 8 * at; width = 8; bytewise = true; order = Little }

-- so many bytes from one on become 0
abbrev pub zeros : ℕ → ℕ → List (Cell × ℕ)
zeros at count = map (λ byte. (byte_cell byte, 0)) (range_with_len at count)

-- the bytes of the record's slot become 0
abbrev pub slot_zeros : Layout → Element → List (Cell × ℕ)
slot_zeros layout e =
    option_map_or (λ n. zeros (record_start layout e) n.slot) (pool_numbers layout e.pool) []

-- the number that a field of the kind gets: its reset value, or that of no slot; none for a gap
abbrev pub reset_number : Layout → Kind → Option ℕ
reset_number layout (Number init) = Some init
reset_number layout (Refers pool) = option_map (λ n. n.none) (pool_numbers layout pool)
reset_number layout Gap = None

-- so many entries of the field get the value
abbrev pub entry_puts : Layout → Element → FieldRef → ℕ → ℕ → List (Cell × ℕ)
entry_puts layout e place count value =
    filter_map (λ i. option_map (λ cell. (cell, value)) (cell_of layout e place i))
    (range_with_len 0 count)

-- each entry of the field that is declared at the place is reset
abbrev pub field_puts : Layout → Element → FieldRef → Field → List (Cell × ℕ)
field_puts layout e place field =
    option_map_or
    (entry_puts layout e place (option_map_or entry_count (field_place layout place) 0))
    (reset_number layout field.kind) []

-- each field that the structure itself declares
abbrev pub structure_puts : Structures → Layout → Element → ℕ → List (Cell × ℕ)
structure_puts base layout e structure =
    option_map_or
    (λ s. each_at
    (λ k field. field_puts layout e (record { structure = structure; field = k }) field) 0 s.fields)
    (slice_get base.structures structure) []

-- each field of the structure of the record's pool, those of its ancestors among them
abbrev pub record_puts : Structures → Layout → Element → List (Cell × ℕ)
record_puts base layout e =
    option_map_or
    (λ d. flat_map (structure_puts base layout e)
    (d.structure ∷ ancestors base.structures d.structure))
    (pool_at base e.pool) []

-- The record is reset: its bytes become 0, and then its fields get their reset values. The order
-- doesn't matter, since such fields share no bit. That each cell has its reset value in the end,
-- and each other bit of the slot is 0, is a law.
abbrev pub reset_puts : Structures → Layout → Element → List (Cell × ℕ)
reset_puts base layout e = slot_zeros layout e ++ record_puts base layout e
