-- Where the fields of a structure stand, and how large structures are, by the values of the fixed
-- fields.
use Rattle.std.specs.Prelude.{ℕ, nat_eq, List, [], ◌∷◌, length, reverse, Option, None, Some, option_map, option_and_then, if◌then◌else◌}
use Rattle.std.specs.Option.{option_map_or}
use Rattle.dsr_ir.specs.Exprs.{ExprShape}
use Rattle.dsr_ir.specs.declared.declarations.Field.{Field}
use Rattle.dsr_ir.specs.declared.declarations.Structure.{Structure}
use Rattle.dsr_ir.specs.declared.layouts.FieldPlace.{FieldPlace}
use Rattle.dsr_meaning.specs.Cells.{width_bits}
use Rattle.dsr_meaning.specs.Expressions.{in_range, value_of}
use Rattle.dsr_meaning.specs.Extents.{Extent, up_to_byte, bit_behind}

-- A structure by its number and its ancestors, the nearest first, among structures of which the
-- last declared comes first. A parent counts where it is declared before its structure, so that
-- this ends on every table; in a typed specification each parent is.
abbrev pub lineage_in : List Structure → ℕ → List Structure
lineage_in [] i = []
lineage_in (s ∷ earlier) i =
    if nat_eq i (length earlier) then s ∷ option_map_or (lineage_in earlier) s.parent [] else lineage_in earlier i

-- a structure by its number and its ancestors, the nearest first
abbrev pub lineage : List Structure → ℕ → List Structure
lineage structures i = lineage_in (reverse structures) i

-- the number of a field's entries, which a scalar hasn't; no value where its length has none
abbrev pub entries_of : (ℕ → Option ℕ) → Option ExprShape → Option (Option ℕ)
entries_of fixed None = Some None
entries_of fixed (Some e) = option_map Some (value_of fixed e)

-- what a field takes up
abbrev pub extent_of : (ℕ → Option ℕ) → Field → Option Extent
extent_of fixed f =
    option_map (λ entries. record { bits = width_bits f.width; entries = entries }) (entries_of fixed f.len)

-- the bit behind fields that follow each other from a bit on
abbrev pub bit_behind_fields : (ℕ → Option ℕ) → ℕ → List Field → Option ℕ
bit_behind_fields fixed bit [] = Some bit
bit_behind_fields fixed bit (f ∷ fs) =
    option_and_then (λ e. bit_behind_fields fixed (bit_behind bit e) fs) (extent_of fixed f)

-- the place of a field at the bit, with its entries
abbrev pub placed_at : ℕ → Field → Extent → FieldPlace
placed_at bit f e = record { bit = bit; width = f.width; length = e.entries }

-- the places of fields that follow each other from a bit on
abbrev pub placed : (ℕ → Option ℕ) → ℕ → List Field → Option (List FieldPlace)
placed fixed bit [] = Some []
placed fixed bit (f ∷ fs) =
    option_and_then
    (λ e. option_map (λ places. placed_at bit f e ∷ places) (placed fixed (bit_behind bit e) fs))
    (extent_of fixed f)

-- the byte boundary behind the fields of a structure, whose own stand behind those of its ancestors
abbrev pub end_of : (ℕ → Option ℕ) → List Structure → Option ℕ
end_of fixed [] = Some 0
end_of fixed (s ∷ ancestors) =
    option_and_then (λ start. option_map up_to_byte (bit_behind_fields fixed start s.fields)) (end_of fixed ancestors)

-- the size of a structure in bits
abbrev pub size_of : (ℕ → Option ℕ) → List Structure → ℕ → Option ℕ
size_of fixed structures i = option_and_then in_range (end_of fixed (lineage structures i))

-- the places of a structure's own fields
abbrev pub own_places : (ℕ → Option ℕ) → List Structure → Option (List FieldPlace)
own_places fixed [] = None
own_places fixed (s ∷ ancestors) =
    option_and_then (λ start. placed fixed start s.fields) (end_of fixed ancestors)
