-- What the tables of names tell, as definitions and contracts see it.
use Rattle.std.specs.Prelude.{ℕ, Bool, false, List, [], ◌∷◌, Option, None, Some, is_some, map, if◌then◌else◌, slice_get, slice_index_or, option_map, option_and_then}
use Rattle.std.specs.Str.{bytes_eq}
use Rattle.indexmap.specs.IndexMap.{get}
use Rattle.dsr_ir.specs.declared.declarations.Field.{Field}
use Rattle.dsr_ir.specs.declared.declarations.FieldRef.{FieldRef}
use Rattle.dsr_ir.specs.declared.declarations.Structures.{Structures}
use Rattle.dsr_meaning.specs.Typed.{ancestors}
use Rattle.dsr_meaning.specs.Lists.{each_at}
use Rattle.dsr_language_theory.specs.Known.{Known as KnownNames, is_gap}
use Rattle.dsr_names.specs.declared.known.Known.{Known}
use Rattle.dsr_names.specs.declared.tables.TableNames.{TableNames}

-- whether an item has a name, and this one
abbrev pub is_named : Option (List ℕ) → List ℕ → Bool
is_named None q = false
is_named (Some n) q = bytes_eq n q

-- what is known of a name after one more was entered under a number; the first entry counts
abbrev pub entered : (List ℕ → Option ℕ) → List ℕ → ℕ → List ℕ → Option ℕ
entered known name number q =
    if is_some (known q) then known q else (if bytes_eq name q then Some number else None)

-- the name of a field; a gap has none
abbrev pub field_name : Field → Option (List ℕ)
field_name f = if is_gap f.kind then None else Some f.name

-- the ancestors of each structure, in order of declaration
abbrev pub all_ancestors : Structures → List (List ℕ)
all_ancestors base = each_at (λ i _. ancestors base.structures i ∷ []) 0 base.structures

-- the field that a structure itself declares under a name
abbrev pub own_field : TableNames → List ℕ → ℕ → Option FieldRef
own_field tables q i =
    option_and_then (λ t. option_map (λ k. record { structure = i; field = k }) (get bytes_eq t q))
    (slice_get tables.fields.items i)

-- the first of several structures to declare a field of this name
abbrev pub first_field : TableNames → List ℕ → List ℕ → Option FieldRef
first_field tables q [] = None
first_field tables q (i ∷ is) =
    if is_some (own_field tables q i) then own_field tables q i else first_field tables q is

abbrev pub line_of : TableNames → ℕ → List ℕ
line_of tables i = slice_index_or (map (λ v. v.items) tables.ancestors.items) i []

-- what the tables tell of names
abbrev pub told_by : Structures → TableNames → KnownNames
told_by base tables = record {
  base = base;
  pool = get bytes_eq tables.pools;
  set = get bytes_eq tables.sets;
  relation = get bytes_eq tables.relations;
  field = λ i q. first_field tables q (i ∷ line_of tables i);
}

abbrev pub known_of : Known → KnownNames
known_of known = told_by known.base.now known.tables.now
