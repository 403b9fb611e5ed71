-- What the names in rules and constraints stand for, among the tables of declarations.
use Rattle.std.specs.Prelude.{ℕ, Bool, true, false, not, ◌&&◌, is_none, is_some, List, [], ◌∷◌, Option, None, Some, slice_get, option_map, option_and_then, if◌then◌else◌}
use Rattle.std.specs.List.{position_from}
use Rattle.std.specs.Option.{option_map_or}
use Rattle.std.specs.Str.{bytes_eq}
use Rattle.dsr_ir.specs.Exprs.{ExprShape, is_same}
use Rattle.dsr_ir.specs.declared.declarations.Field.{Field}
use Rattle.dsr_ir.specs.declared.declarations.FieldRef.{FieldRef}
use Rattle.dsr_ir.specs.declared.declarations.Kind.{Kind}
use Rattle.dsr_ir.specs.declared.declarations.Kind.TheVariants.{Number, Refers, Gap}
use Rattle.dsr_ir.specs.declared.declarations.Pool.{Pool}
use Rattle.dsr_ir.specs.declared.declarations.Rel.{Rel}
use Rattle.dsr_ir.specs.declared.declarations.SetDecl.{SetDecl}
use Rattle.dsr_ir.specs.declared.declarations.Structure.{Structure}
use Rattle.dsr_ir.specs.declared.declarations.Structures.{Structures}
use Rattle.dsr_tree.specs.declared.faults.Condition.TheVariants as conditions
use Rattle.dsr_tree.specs.declared.faults.Fault.{Fault}
use Rattle.dsr_tree.specs.declared.tree.PlacedName.{PlacedName}
use Rattle.dsr_meaning.specs.Instances.{declared_field}
use Rattle.dsr_meaning.specs.Typed.{ancestors, pool_at}
use Rattle.dsr_language_theory.specs.Faults.{when}

-- a list without items
abbrev pub is_nil : {T : Type 0} → List T → Bool
is_nil [] = true
is_nil (x ∷ xs) = false

-- ---- fields of records

-- a gap has no name
abbrev pub is_gap : Kind → Bool
is_gap (Number init) = false
is_gap (Refers pool) = false
is_gap Gap = true

abbrev pub has_field_name : List ℕ → Field → Bool
has_field_name q f = not (is_gap f.kind) && bytes_eq f.name q

-- the field that a structure itself declares under a name
abbrev pub own_field : Structures → List ℕ → ℕ → Option FieldRef
own_field base q i =
    option_and_then
    (λ s. option_map (λ k. record { structure = i; field = k })
    (position_from (has_field_name q) 0 s.fields))
    (slice_get base.structures i)

-- the first of several structures to declare a field of this name
abbrev pub first_field : Structures → List ℕ → List ℕ → Option FieldRef
first_field base q [] = None
first_field base q (i ∷ is) =
    if is_some (own_field base q i) then own_field base q i else first_field base q is

-- the field of a structure's records under a name: its own, or that of an ancestor
abbrev pub record_field : Structures → ℕ → List ℕ → Option FieldRef
record_field base i q = first_field base q (i ∷ ancestors base.structures i)

-- ---- names

-- tables, and the numbers for which names stand there
pub record Known : Type 0 where
  pub base : Structures
  pub pool : List ℕ → Option ℕ
  pub set : List ℕ → Option ℕ
  pub relation : List ℕ → Option ℕ
  -- of a structure by its number
  pub field : ℕ → List ℕ → Option FieldRef

-- what names stand for: the first entry that has the name; pools are counted from 1
abbrev pub known_in : Structures → Known
known_in base = record {
  base = base;
  pool = λ q. position_from (λ p. bytes_eq p.name q) 1 base.pools;
  set = λ q. position_from (λ s. bytes_eq s.name q) 0 base.sets;
  relation = λ q. position_from (λ r. bytes_eq r.name q) 0 base.rels;
  field = record_field base;
}

-- the pool, the set or the relation that has a name
abbrev pub pool_named : Known → List ℕ → Option Pool
pool_named known q = option_and_then (pool_at known.base) (known.pool q)

abbrev pub set_named : Known → List ℕ → Option SetDecl
set_named known q = option_and_then (slice_get known.base.sets) (known.set q)

abbrev pub relation_named : Known → List ℕ → Option Rel
relation_named known q = option_and_then (slice_get known.base.rels) (known.relation q)

-- the set of a number, where it is no complement
abbrev pub plain_number : Known → ℕ → Option ℕ
plain_number known n =
    option_and_then (λ s. if is_some s.except then None else Some n) (slice_get known.base.sets n)

-- the set of a name where no complement may stand
abbrev pub plain_set : Known → List ℕ → Option ℕ
plain_set known q = option_and_then (plain_number known) (known.set q)

abbrev pub plain_named : Known → List ℕ → Option SetDecl
plain_named known q = option_and_then (slice_get known.base.sets) (plain_set known q)

-- a name that stands for nothing
abbrev pub unknown : {T : Type 0} → Option T → PlacedName → List Fault
unknown found q = when (is_none found) conditions.UnknownName q.place

-- ---- what is known of two things

-- a name is known, and is this one
abbrev pub is_this : Option (List ℕ) → List ℕ → Bool
is_this None q = false
is_this (Some name) q = bytes_eq name q

-- how many entries the array at a place has; none for a scalar
abbrev pub field_length : Structures → FieldRef → Option ExprShape
field_length base place = option_and_then (λ f. f.len) (declared_field base place)

-- Two lengths are known, and aren't the same expression. An array of length `n` and one of length
-- `n + 0` differ, although they are as long: so what is typed doesn't depend on an image.
abbrev pub differ : Option ExprShape → Option ExprShape → Bool
differ (Some a) (Some b) = not (is_same a b)
differ _ _ = false

-- what a test says of a field at a place that is known
abbrev pub field_is : Structures → (Field → Bool) → Option FieldRef → Bool
field_is base test None = false
field_is base test (Some place) = option_map_or test (declared_field base place) false
