-- The layout of a specification on an image: the numbers that its expressions have there.
use Rattle.std.specs.Prelude.{ℕ, suc, ◌+◌, ◌-◌, ◌*◌, ◌/◌, List, [], ◌∷◌, length, Option, None, Some, option_map, option_and_then}
use Rattle.dsr_ir.specs.Exprs.{ExprShape}
use Rattle.dsr_ir.specs.declared.declarations.Pool.{Pool}
use Rattle.dsr_ir.specs.declared.declarations.Structure.{Structure}
use Rattle.dsr_ir.specs.declared.declarations.Structures.{Structures}
use Rattle.dsr_ir.specs.declared.layouts.FieldPlace.{FieldPlace}
use Rattle.dsr_ir.specs.declared.layouts.Layout.{Layout}
use Rattle.dsr_ir.specs.declared.layouts.PoolNumbers.{PoolNumbers}
use Rattle.dsr_meaning.specs.Expressions.{value_of}
use Rattle.dsr_meaning.specs.FixedFields.{fixed_value}
use Rattle.dsr_meaning.specs.Places.{lineage, size_of, own_places}

-- what each item of a list has, by its number, which counts from n; none where one has nothing
abbrev pub collect_at : {S T : Type 0} → (ℕ → S → Option T) → ℕ → List S → Option (List T)
collect_at f n [] = Some []
collect_at f n (x ∷ xs) =
    option_and_then (λ y. option_map (λ ys. y ∷ ys) (collect_at f (suc n) xs)) (f n x)

-- a structure's size in bytes, by the sizes in bits
abbrev pub bytes_of : (ℕ → Option ℕ) → ℕ → Option ℕ
bytes_of size structure = option_map (λ bits. bits / 8) (size structure)

-- the bytes of a slot: a value of its own, or the size of the pool's structure
abbrev pub slot_bytes : (ℕ → Option ℕ) → (ℕ → Option ℕ) → ℕ → Option ExprShape → Option ℕ
slot_bytes fixed size structure None = bytes_of size structure
slot_bytes fixed size structure (Some e) = value_of fixed e

-- the numbers of a pool, by the values of the fixed fields and the sizes of structures
abbrev pub pool_of : (ℕ → Option ℕ) → (ℕ → Option ℕ) → Pool → Option PoolNumbers
pool_of fixed size p =
    option_and_then (λ count. option_and_then (λ slot. option_and_then (λ start.
    option_and_then (λ code. option_and_then (λ step. option_map (λ none.
    record { start = start; slot = slot; count = count; code = code; step = step; none = none })
    (value_of fixed p.none)) (value_of fixed p.step)) (value_of fixed p.code))
    (value_of fixed p.start)) (slot_bytes fixed size p.structure p.slot)) (value_of fixed p.count)

-- the byte behind a pool
abbrev pub pool_end : PoolNumbers → ℕ
pool_end n = n.start + n.count * n.slot

-- the code of the last slot of a pool that has one
abbrev pub last_code : PoolNumbers → ℕ
last_code n = n.code + (n.count - 1) * n.step

-- the numbers of all pools, and the places of the fields of all structures
abbrev pub pools_of : (ℕ → Option ℕ) → (ℕ → Option ℕ) → List Pool → Option (List PoolNumbers)
pools_of fixed size pools = collect_at (λ _ p. pool_of fixed size p) 1 pools

abbrev pub places_of : (ℕ → Option ℕ) → List Structure → Option (List (List FieldPlace))
places_of fixed structures =
    collect_at (λ i _. own_places fixed (lineage structures i)) 0 structures

-- the layout, by the values of the fixed fields; none where some expression has no value, used or
-- not: a specification that has no meaning on an image is refused even where nothing would read the
-- part in question
abbrev pub layout_with : (ℕ → Option ℕ) → Structures → ℕ → Option Layout
layout_with fixed base length =
    option_and_then (λ fields. option_map (λ pools.
    record { length = length; order = base.order; pools = pools; fields = fields })
    (pools_of fixed (size_of fixed base.structures) base.pools)) (places_of fixed base.structures)

-- the layout on an image
abbrev pub layout_of : Structures → List ℕ → Option Layout
layout_of base bytes = layout_with (fixed_value base bytes) base (length bytes)
