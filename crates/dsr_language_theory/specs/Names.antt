-- What the names of a specification stand for.
use Rattle.std.specs.Prelude.{ℕ, Bool, true, false, ◌&&◌, ◌||◌, nat_eq, nat_lt, List, [], ◌∷◌, map, length, reverse, take, codes, Option, None, Some, is_some, if◌then◌else◌, slice_get, slice_index_or, option_and_then}
use Rattle.std.specs.List.{position_from}
use Rattle.std.specs.Str.{bytes_eq}
use Rattle.dsr_tree.specs.Trees.{FieldTree, named, skipped, StructureTree, TreeShape}
use Rattle.dsr_tree.specs.declared.tree.PlacedName.{PlacedName}
use Rattle.dsr_tree.specs.declared.tree.View.{View}
use Rattle.dsr_tree.specs.declared.tree.View.TheVariants as views
use Rattle.dsr_meaning.specs.Lists.{any_of, each_at}

-- whether a name was found, and at this number
abbrev pub is_at : ℕ → Option ℕ → Bool
is_at n None = false
is_at n (Some m) = nat_eq m n

-- `Head`, the name of the structure of the record at byte 0
abbrev pub is_head : List ℕ → Bool
is_head name = bytes_eq name (codes "Head")

-- the name that a field has; a gap has none
abbrev pub has_name : List ℕ → FieldTree → Bool
has_name q (named f) = bytes_eq f.name.name q
has_name q (skipped place length) = false

-- the name that a fixed field has
abbrev pub has_fixed_name : List ℕ → FieldTree → Bool
has_fixed_name q (named f) = is_some f.fixed && bytes_eq f.name.name q
has_fixed_name q (skipped place length) = false

-- The first declaration of a name, by its number among those of its kind. The second one is refused
-- at its place, and what else is told, before that place, goes by the first.
abbrev pub structure_number : TreeShape → List ℕ → Option ℕ
structure_number t q = position_from (λ s. bytes_eq s.name.name q) 0 t.structures

abbrev pub field_number : StructureTree → List ℕ → Option ℕ
field_number s q = position_from (has_name q) 0 s.fields

abbrev pub pool_number : TreeShape → List ℕ → Option ℕ
pool_number t q = position_from (λ p. bytes_eq p.name.name q) 0 t.pools

abbrev pub set_number : TreeShape → List ℕ → Option ℕ
set_number t q = position_from (λ s. bytes_eq s.name.name q) 0 t.sets

abbrev pub relation_number : TreeShape → List ℕ → Option ℕ
relation_number t q = position_from (λ r. bytes_eq r.name.name q) 0 t.relations

-- the first supply of the pool that has a name
abbrev pub supply_number : TreeShape → List ℕ → Option ℕ
supply_number t q = position_from (λ f. bytes_eq f.pool.name q) 0 t.supplies

-- the fixed field that a structure itself declares under a name, by its number among all fields
-- there, also where a field of the same name that isn't fixed stands before it: the later of the
-- two is told as declared twice
abbrev pub fixed_in : TreeShape → Option ℕ → List ℕ → Option ℕ
fixed_in t structure q =
    option_and_then (λ s. position_from (has_fixed_name q) 0 s.fields)
    (option_and_then (slice_get t.structures) structure)

-- that of `Head`
abbrev pub fixed_number : TreeShape → List ℕ → Option ℕ
fixed_number t = fixed_in t (structure_number t (codes "Head"))

-- the parent of a structure: a structure other than `Head` that is declared before it
abbrev pub before : ℕ → Option ℕ → Option ℕ
before i None = None
before i (Some p) = if nat_lt p i then Some p else None

abbrev pub parent_number : (List ℕ → Option ℕ) → ℕ → Option PlacedName → Option ℕ
parent_number number i None = None
parent_number number i (Some q) = if is_head q.name then None else before i (number q.name)

-- a parent, where there is one, and its ancestors
abbrev pub with_ancestors : (ℕ → List ℕ) → Option ℕ → List ℕ
with_ancestors ancestors None = []
with_ancestors ancestors (Some p) = p ∷ ancestors p

-- The ancestors of a structure by its number, the nearest first, among structures of which the last
-- declared comes first. A parent counts where it is declared before its structure, so that this
-- ends on every table; in a typed specification each parent is.
abbrev pub ancestors_in : (List ℕ → Option ℕ) → List StructureTree → ℕ → List ℕ
ancestors_in number [] i = []
ancestors_in number (s ∷ earlier) i =
    if nat_eq i (length earlier)
    then with_ancestors (ancestors_in number earlier) (parent_number number i s.parent)
    else ancestors_in number earlier i

-- those of each structure, in order of declaration
abbrev pub all_ancestors : (List ℕ → Option ℕ) → List StructureTree → List (List ℕ)
all_ancestors number structures =
    each_at (λ i _. ancestors_in number (reverse structures) i ∷ []) 0 structures

-- all that conditions on declarations ask of names
pub record Names : Type 0 where
  pub tree : TreeShape
  pub structure : List ℕ → Option ℕ
  pub fields : List (List ℕ → Option ℕ)
  pub ancestors : List (List ℕ)
  pub fixed : List ℕ → Option ℕ
  pub pool : List ℕ → Option ℕ
  pub set : List ℕ → Option ℕ
  pub relation : List ℕ → Option ℕ
  pub supply : List ℕ → Option ℕ

-- 64 structures are allowed, and behind the first one too many
-- nothing is asked: its name comes before all that stands there
abbrev pub asked_structures : TreeShape → List StructureTree
asked_structures t = take 65 t.structures

-- what the names of a tree stand for
abbrev pub names_of : TreeShape → Names
names_of t =
    record {
      tree = t;
      structure = structure_number t;
      fields = map field_number t.structures;
      ancestors = all_ancestors (structure_number t) (asked_structures t);
      fixed = fixed_number t;
      pool = pool_number t;
      set = set_number t;
      relation = relation_number t;
      supply = supply_number t;
    }

-- the structure of a name as a parent, a pool's structure or a set's: `Head` is none of these
abbrev pub used_structure : Names → List ℕ → Option ℕ
used_structure names q = if is_head q then None else names.structure q

-- the ancestors of a structure
abbrev pub ancestors_of : Names → ℕ → List ℕ
ancestors_of names i = slice_index_or names.ancestors i []

-- the field that a structure itself declares under a name
abbrev pub own_field : Names → ℕ → List ℕ → Option ℕ
own_field names i q = option_and_then (λ number. number q) (slice_get names.fields i)

-- whether an ancestor of a structure declares a field of this name
abbrev pub inherits : Names → ℕ → List ℕ → Bool
inherits names i q = any_of (λ a. is_some (own_field names a q)) (ancestors_of names i)

-- whether a structure is another one or descends from it
abbrev pub descends : Names → ℕ → ℕ → Bool
descends names i a = nat_eq i a || any_of (nat_eq a) (ancestors_of names i)

-- the structure of a pool
abbrev pub pool_structure : Names → ℕ → Option ℕ
pool_structure names p =
    option_and_then (λ d. used_structure names d.structure.name) (slice_get names.tree.pools p)

-- whether a set is declared as a complement
abbrev pub is_complement : Option View → Bool
is_complement (Some (views.Except place set)) = true
is_complement _ = false

-- the set of a name where no complement may stand
abbrev pub plain_number : Names → ℕ → Option ℕ
plain_number names n =
    option_and_then (λ s. if is_complement s.view then None else Some n) (slice_get names.tree.sets n)

abbrev pub plain_set : Names → List ℕ → Option ℕ
plain_set names q = option_and_then (plain_number names) (names.set q)

-- the pool of a set
abbrev pub set_pool : Names → ℕ → Option ℕ
set_pool names n = option_and_then (λ s. names.pool s.pool.name) (slice_get names.tree.sets n)
