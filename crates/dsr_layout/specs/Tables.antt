-- What the tables of the code tell.
use Rattle.std.specs.Prelude.{◌≡◌, ◌-◌, ◌^◌, ℕ, nat_lt, min, List, Option, None, Some, slice_get, slice_index_or, option_map, option_and_then, if◌then◌else◌}
use Rattle.dsr_ir.specs.declared.declarations.Structure.{Structure}
use Rattle.dsr_ir.specs.declared.layouts.Cell.{Cell}
use Rattle.dsr_ir.specs.declared.layouts.FieldPlace.{FieldPlace}
use Rattle.dsr_meaning.specs.Places.{lineage, end_of}

-- what a table has under a number
abbrev pub known : {T : Type 0} → List (Option T) → ℕ → Option T
known table k = option_and_then (λ v. v) (slice_get table k)

-- Sums and products stop at the last number of 64 bits, which stands for every greater one, too.
-- While bits are counted nothing is refused: a bit that stands there is behind every image, and in
-- no structure with a size, so one kind of arithmetic serves fixed fields, sizes and places.
abbrev pub clip : ℕ → ℕ
clip n = min n (2 ^ 64 - 1)

abbrev pub clip_cell : Cell → Cell
clip_cell c = record { bit = clip c.bit; width = c.width; bytewise = c.bytewise; order = c.order }

abbrev pub clip_place : FieldPlace → FieldPlace
clip_place p = record { bit = clip p.bit; width = p.width; length = p.length }

-- where a structure ends, by its number; a number that isn't one ends at once
abbrev pub end_in : List (Option ℕ) → ℕ → Option ℕ
end_in ends i = slice_index_or ends i (Some 0)

-- the size of a structure in bits, which has no value where it was clipped
abbrev pub size_in : List (Option ℕ) → ℕ → Option ℕ
size_in ends i =
    option_and_then (λ e. if nat_lt e (2 ^ 64 - 1) then Some e else None) (end_in ends i)

-- the table has the clipped end of each structure
abbrev pub HoldsEnds : (ℕ → Option ℕ) → List Structure → List (Option ℕ) → Type 0
HoldsEnds fixed structures ends =
    (i : ℕ) → end_in ends i ≡ option_map clip (end_of fixed (lineage structures i))
