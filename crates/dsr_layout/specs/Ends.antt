-- Where the own fields of structures begin, by the table of ends.
use Rattle.std.specs.Prelude.{◌≡◌, ◌⊎◌, ℕ, nat_lt, List, map, Option, None, Some, option_map, option_and_then, if◌then◌else◌}
use Rattle.std.specs.Option.{option_map_or}
use Rattle.dsr_ir.specs.declared.declarations.Field.{Field}
use Rattle.dsr_ir.specs.declared.declarations.Structure.{Structure}
use Rattle.dsr_ir.specs.declared.layouts.FieldPlace.{FieldPlace}
use Rattle.dsr_meaning.specs.Extents.{up_to_byte}
use Rattle.dsr_meaning.specs.Places.{bit_behind_fields, placed}
use Rattle.dsr_layout.specs.Tables.{clip, clip_place, end_in, size_in}

-- the clipped bit at which the own fields of a structure begin; a parent is declared before it
abbrev pub start_in : List (Option ℕ) → ℕ → Option ℕ → Option ℕ
start_in ends i parent =
    option_map_or (λ p. if nat_lt p i then end_in ends p else Some 0) parent (Some 0)

-- the clipped byte boundary behind fields
abbrev pub end_behind : (ℕ → Option ℕ) → Option ℕ → List Field → Option ℕ
end_behind fixed start fields =
    option_and_then (λ bit. option_map (λ e. clip (up_to_byte (clip e))) (bit_behind_fields fixed bit fields)) start

-- the clipped places of fields
abbrev pub clipped_places : (ℕ → Option ℕ) → Option ℕ → List Field → Option (List FieldPlace)
clipped_places fixed start fields =
    option_and_then (λ bit. option_map (map clip_place) (placed fixed bit fields)) start

-- the clipped places of a structure's own fields
abbrev pub own_places_in :
    (ℕ → Option ℕ) → List (Option ℕ) → ℕ → Structure → Option (List FieldPlace)
own_places_in fixed ends number s = clipped_places fixed (start_in ends number s.parent) s.fields

-- the structure, or one of its own fields, has no place
abbrev pub LacksPlaces : (ℕ → Option ℕ) → List (Option ℕ) → ℕ → Structure → Type 0
LacksPlaces fixed ends number s =
    (size_in ends number ≡ None) ⊎ (own_places_in fixed ends number s ≡ None)
