-- What the parts of a rule rest on: its record and its index.
use Rattle.std.specs.Prelude.{ℕ, Bool, true, false, List, [], ◌∷◌, Option, None, Some, is_none, option_map, option_and_then, if◌then◌else◌}
use Rattle.dsr_ir.specs.Exprs.{ExprShape}
use Rattle.dsr_ir.specs.declared.declarations.FieldRef.{FieldRef}
use Rattle.dsr_tree.specs.declared.tree.Guard.{Guard}
use Rattle.dsr_tree.specs.declared.tree.Guards.{Guards}
use Rattle.dsr_tree.specs.declared.tree.Index.{Index}
use Rattle.dsr_tree.specs.declared.tree.Index.TheVariants as indexes
use Rattle.dsr_tree.specs.declared.tree.PlacedName.{PlacedName}
use Rattle.dsr_tree.specs.declared.tree.Premise.{Premise}
use Rattle.dsr_tree.specs.declared.tree.Premise.TheVariants as premises
use Rattle.dsr_tree.specs.declared.tree.Rule.{Rule}
use Rattle.dsr_tree.specs.declared.tree.Span.{Span}
use Rattle.dsr_tree.specs.declared.tree.Var.{Var}
use Rattle.dsr_tree.specs.declared.tree.Var.TheVariants as vars
use Rattle.dsr_language_theory.specs.Known.{Known, pool_named, plain_set, plain_named, is_this, field_length}

-- ---- the premise

-- the number of the premise's set; none where the premise is `head`
abbrev pub premise_set : Known → Premise → Option ℕ
premise_set known (premises.Head place) = None
premise_set known (premises.Member name set) = plain_set known set.name

-- the name of the record; none where it is the head
abbrev pub record_name : Premise → Option (List ℕ)
record_name (premises.Head place) = None
record_name (premises.Member name set) = Some name.name

-- the structure by which the record is read, where the set is known
abbrev pub record_structure : Known → Premise → Option ℕ
record_structure known (premises.Head place) = Some known.base.head
record_structure known (premises.Member name set) =
    option_map (λ s. s.structure) (plain_named known set.name)

-- the pool of the record, where the set is known; that of the head is 0
abbrev pub record_pool : Known → Premise → Option ℕ
record_pool known (premises.Head place) = Some 0
record_pool known (premises.Member name set) = option_map (λ s. s.pool) (plain_named known set.name)

-- ---- the index

abbrev pub index_name : Option Span → Option (List ℕ)
index_name None = None
index_name (Some span) = Some span.name.name

-- whether the index runs over the slots of a pool
abbrev pub is_pool_index : Index → Bool
is_pool_index (indexes.Pool place pool) = true
is_pool_index (indexes.Array name) = false

abbrev pub is_over_pool : Option Span → Bool
is_over_pool None = false
is_over_pool (Some span) = is_pool_index span.index

-- the array of the record over which an index runs
abbrev pub array_field : Known → Option ℕ → List ℕ → Option FieldRef
array_field known structure q = option_and_then (λ i. known.field i q) structure

-- how many entries an index runs over, where its pool or its array is known
abbrev pub index_entries : Known → Option ℕ → Index → Option ExprShape
index_entries known structure (indexes.Pool place pool) =
    option_map (λ d. d.count) (pool_named known pool.name)
index_entries known structure (indexes.Array name) =
    option_and_then (field_length known.base) (array_field known structure name.name)

abbrev pub span_entries : Known → Option ℕ → Option Span → Option ExprShape
span_entries known structure None = None
span_entries known structure (Some span) = index_entries known structure span.index

-- ---- all of it

pub record Scope : Type 0 where
  pub known : Known
  -- where the rule begins
  pub place : ℕ
  -- the record's name; none where it is the head
  pub name : Option (List ℕ)
  -- its structure and its pool, where the premise's set is known
  pub structure : Option ℕ
  pub pool : Option ℕ
  pub index : Option (List ℕ)
  pub over_pool : Bool
  -- how many entries the index runs over, where that is known
  pub entries : Option ExprShape

abbrev pub scope_of : Known → Rule → Scope
scope_of known r = record {
  known = known;
  place = r.place;
  name = record_name r.premise;
  structure = record_structure known r.premise;
  pool = record_pool known r.premise;
  index = index_name r.span;
  over_pool = is_over_pool r.span;
  entries = span_entries known (record_structure known r.premise) r.span;
}

-- the guards of a rule
abbrev pub guards_of : Option Guards → List Guard
guards_of None = []
guards_of (Some guards) = guards.first ∷ guards.rest

-- ---- paths

-- a variable is the rule's record
abbrev pub is_record : Scope → Var → Bool
is_record scope (vars.Head place) = is_none scope.name
is_record scope (vars.Name q) = is_this scope.name q.name

-- the field that the record has under a name
abbrev pub field_of : Scope → List ℕ → Option FieldRef
field_of scope q = array_field scope.known scope.structure q

-- the field that a path reads, where that is known
abbrev pub path_field : Scope → Var → PlacedName → Option FieldRef
path_field scope var field = if is_record scope var then field_of scope field.name else None

-- the place of a variable
abbrev pub var_place : Var → ℕ
var_place (vars.Head place) = place
var_place (vars.Name q) = q.place
