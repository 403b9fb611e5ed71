-- The faults of structures, pools, sets, relations and supplies.
use Rattle.std.specs.Prelude.{ℕ, ◌+◌, ◌%◌, ◌^◌, Bool, true, false, not, ◌&&◌, ◌||◌, nat_eq, nat_le, List, [], ◌∷◌, ◌++◌, map, length, take, codes, Option, None, Some, is_some, is_none, slice_get, option_map, option_and_then}
use Rattle.std.specs.Option.{option_map_or}
use Rattle.dsr_tree.specs.Trees.{ExprTree, expr_tree, MoreTermTrees, no_terms, more_terms, TermTree, term_tree, MoreFactorTrees, no_factors, more_factors, FactorTree, number_tree, name_tree, group_tree}
use Rattle.dsr_tree.specs.Trees.{NamedFieldTree, FieldTree, named, skipped, StructureTree, PoolTree, TreeShape}
use Rattle.dsr_tree.specs.declared.faults.Condition.TheVariants as conditions
use Rattle.dsr_tree.specs.declared.faults.Fault.{Fault}
use Rattle.dsr_tree.specs.declared.tree.Content.{Content}
use Rattle.dsr_tree.specs.declared.tree.Content.TheVariants as contents
use Rattle.dsr_tree.specs.declared.tree.Fresh.{Fresh}
use Rattle.dsr_tree.specs.declared.tree.PlacedName.{PlacedName}
use Rattle.dsr_tree.specs.declared.tree.Relation.{Relation}
use Rattle.dsr_tree.specs.declared.tree.Set.{Set}
use Rattle.dsr_tree.specs.declared.tree.Target.{Target}
use Rattle.dsr_tree.specs.declared.tree.Target.TheVariants as targets
use Rattle.dsr_tree.specs.declared.tree.Var.{Var}
use Rattle.dsr_tree.specs.declared.tree.Var.TheVariants as vars
use Rattle.dsr_tree.specs.declared.tree.View.{View}
use Rattle.dsr_tree.specs.declared.tree.View.TheVariants as views
use Rattle.dsr_tree.specs.declared.tree.Width.{Width}
use Rattle.dsr_tree.specs.declared.tree.Width.TheVariants as widths
use Rattle.dsr_meaning.specs.Extents.{Extent, bit_behind_all}
use Rattle.dsr_language_theory.specs.Faults.{when}
use Rattle.dsr_meaning.specs.Lists.{any_of, each_at}
use Rattle.dsr_language_theory.specs.Names.{Names, names_of, asked_structures, is_at, is_head, used_structure, ancestors_of, own_field, inherits, descends, pool_structure, plain_set, set_pool}
use Rattle.dsr_meaning.specs.Limits.{most_fields, most_structures, most_symbols}

-- a name that isn't declared as what it is used for
abbrev pub unknown_name : (List ℕ → Option ℕ) → PlacedName → List Fault
unknown_name number q = when (is_none (number q.name)) conditions.UnknownName q.place

-- ---- expressions

-- the names of an expression that are no fixed fields of `Head`
abbrev mutual
  pub expr_faults : (List ℕ → Option ℕ) → ExprTree → List Fault
  expr_faults fixed (expr_tree first rest) = term_faults fixed first ++ more_terms_faults fixed rest

  pub more_terms_faults : (List ℕ → Option ℕ) → MoreTermTrees → List Fault
  more_terms_faults fixed no_terms = []
  more_terms_faults fixed (more_terms sign term rest) = term_faults fixed term ++ more_terms_faults fixed rest

  pub term_faults : (List ℕ → Option ℕ) → TermTree → List Fault
  term_faults fixed (term_tree first rest) = factor_faults fixed first ++ more_factors_faults fixed rest

  pub more_factors_faults : (List ℕ → Option ℕ) → MoreFactorTrees → List Fault
  more_factors_faults fixed no_factors = []
  more_factors_faults fixed (more_factors sign factor rest) = factor_faults fixed factor
      ++ more_factors_faults fixed rest

  pub factor_faults : (List ℕ → Option ℕ) → FactorTree → List Fault
  factor_faults fixed (number_tree number) = []
  factor_faults fixed (name_tree name) = unknown_name fixed name
  factor_faults fixed (group_tree place inner) = expr_faults fixed inner

-- those of an expression that may be left out
abbrev pub maybe_expr_faults : (List ℕ → Option ℕ) → Option ExprTree → List Fault
maybe_expr_faults fixed None = []
maybe_expr_faults fixed (Some e) = expr_faults fixed e

-- whether an expression is a number; parentheses don't count
abbrev mutual
  pub is_number : ExprTree → Bool
  is_number (expr_tree term no_terms) = is_number_term term
  is_number (expr_tree term (more_terms _ _ _)) = false

  pub is_number_term : TermTree → Bool
  is_number_term (term_tree factor no_factors) = is_number_factor factor
  is_number_term (term_tree factor (more_factors _ _ _)) = false

  pub is_number_factor : FactorTree → Bool
  is_number_factor (number_tree number) = true
  is_number_factor (name_tree name) = false
  is_number_factor (group_tree place inner) = is_number inner

-- ---- fields

-- the bits of an entry of a width
abbrev pub entry_bits : Width → ℕ
entry_bits (widths.U8 place) = 8
entry_bits (widths.U16 place) = 16
entry_bits (widths.U32 place) = 32
entry_bits (widths.U64 place) = 64
entry_bits (widths.Bits place number) = number.number

-- whether an entry of a width is made of whole bytes
abbrev pub is_bytewise : Width → Bool
is_bytewise (widths.Bits place number) = false
is_bytewise _ = true

-- a width of bits that isn't one from 1 to 32
abbrev pub width_faults : Width → List Fault
width_faults (widths.Bits place number) =
    when (not (nat_le 1 number.number && nat_le number.number 32)) conditions.Width number.place
width_faults _ = []

-- a constant that is too wide for its field, or a pool that isn't declared
abbrev pub content_faults : (List ℕ → Option ℕ) → Width → Option Content → List Fault
content_faults pool width None = []
content_faults pool width (Some (contents.Init place number)) =
    when (nat_le (2 ^ entry_bits width) number.number) conditions.Width number.place
content_faults pool width (Some (contents.Refers place name)) = unknown_name pool name

-- what a field takes up; how many entries an array has is no matter for where a byte begins, since
-- behind it one does
abbrev pub extent_of : FieldTree → Extent
extent_of (named f) = record { bits = entry_bits f.width; entries = option_map (λ _. 0) f.length }
extent_of (skipped place length) = record { bits = 8; entries = Some 0 }

-- whether a byte begins behind fields that stand at the start of a structure's own
abbrev pub ends_byte : List FieldTree → Bool
ends_byte fields = nat_eq (bit_behind_all 0 (map extent_of fields) % 8) 0

-- whether a field is an array or a gap whose length is an expression other than a number
abbrev pub has_open_length : Option ExprTree → Bool
has_open_length None = false
has_open_length (Some e) = not (is_number e)

abbrev pub is_open : FieldTree → Bool
is_open (named f) = has_open_length f.length
is_open (skipped place length) = not (is_number length)

-- whether an ancestor of a structure has such a field
abbrev pub has_open : List FieldTree → Bool
has_open fields = any_of is_open fields

abbrev pub is_open_structure : Names → ℕ → Bool
is_open_structure names a =
    option_map_or (λ s. has_open s.fields) (slice_get names.tree.structures a) false

abbrev pub inherits_open : Names → ℕ → Bool
inherits_open names i = any_of (is_open_structure names) (ancestors_of names i)

-- where a field stands
pub record FieldPosition : Type 0 where
  -- the number of its structure, and its own there
  pub structure : ℕ
  pub number : ℕ
  pub in_head : Bool
  -- whether a byte begins where the field does
  pub on_byte : Bool
  -- whether an array or a gap whose length isn't a number stands before it
  pub behind_open : Bool

-- whether a structure has the name twice: in an earlier field of its own, or in one that it
-- inherits
abbrev pub is_declared_above : Names → FieldPosition → List ℕ → Bool
is_declared_above names at q =
    not (is_at at.number (own_field names at.structure q)) || inherits names at.structure q

-- whether a field may not be fixed where it stands: outside of
-- `Head`, as an array, or behind a length that isn't a number
abbrev pub is_misplaced : FieldPosition → NamedFieldTree → Bool
is_misplaced at f = not at.in_head || is_some f.length || at.behind_open

abbrev pub named_field_faults : Names → FieldPosition → NamedFieldTree → List Fault
named_field_faults names at f =
    when (is_declared_above names at f.name.name) conditions.NameTwice f.name.place
    ++ (when (nat_eq at.number most_fields) conditions.Limit f.name.place
    ++ (when ((is_bytewise f.width || is_some f.length) && not at.on_byte) conditions.Align f.name.place
    ++ (when (is_some f.fixed && is_misplaced at f) conditions.FixedPlace f.name.place
    ++ (width_faults f.width
    ++ (maybe_expr_faults names.fixed f.length
    ++ content_faults names.pool f.width f.content)))))

abbrev pub field_faults : Names → FieldPosition → FieldTree → List Fault
field_faults names at (named f) = named_field_faults names at f
field_faults names at (skipped place length) =
    when (nat_eq at.number most_fields) conditions.Limit place
    ++ (when (not at.on_byte) conditions.Align place
    ++ expr_faults names.fixed length)

-- ---- structures

-- a parent that is no structure or `Head`, or that isn't declared before its child
abbrev pub is_not_before : ℕ → Option ℕ → Bool
is_not_before i None = false
is_not_before i (Some p) = nat_le i p

abbrev pub parent_faults : Names → ℕ → Option PlacedName → List Fault
parent_faults names i None = []
parent_faults names i (Some q) =
    unknown_name (used_structure names) q
    ++ when (is_not_before i (used_structure names q.name)) conditions.SubtypeLoop q.place

abbrev pub position_of : Names → ℕ → StructureTree → ℕ → FieldPosition
position_of names i s j =
    record {
      structure = i;
      number = j;
      in_head = is_head s.name.name;
      on_byte = ends_byte (take j s.fields);
      behind_open = inherits_open names i || has_open (take j s.fields);
    }

abbrev pub structure_faults : Names → ℕ → StructureTree → List Fault
structure_faults names i s =
    when (not (is_at i (names.structure s.name.name))) conditions.NameTwice s.name.place
    ++ (when (nat_eq i most_structures) conditions.Limit s.name.place
    ++ (parent_faults names i s.parent
    ++ each_at (λ j f. field_faults names (position_of names i s j) f) 0 s.fields))

-- ---- pools

abbrev pub pool_faults : Names → ℕ → PoolTree → List Fault
pool_faults names i p =
    when (not (is_at i (names.pool p.name.name))) conditions.NameTwice p.name.place
    ++ (when (nat_eq i 32) conditions.Limit p.name.place
    ++ (unknown_name (used_structure names) p.structure
    ++ (expr_faults names.fixed p.count
    ++ (maybe_expr_faults names.fixed p.slot
    ++ (expr_faults names.fixed p.start
    ++ (expr_faults names.fixed p.code
    ++ (expr_faults names.fixed p.step
    ++ expr_faults names.fixed p.none)))))))

-- ---- sets

-- whether two numbers are known and differ
abbrev pub disagree : Option ℕ → Option ℕ → Bool
disagree (Some a) (Some b) = not (nat_eq a b)
disagree _ _ = false

-- whether a structure is known not to descend from another one
abbrev pub is_unrelated : Names → Option ℕ → Option ℕ → Bool
is_unrelated names (Some i) (Some a) = not (descends names i a)
is_unrelated names _ _ = false

-- a view by a structure that is none, or that doesn't descend from
-- the pool's; a base that is no set, or one of another pool
abbrev pub view_faults : Names → Set → Option View → List Fault
view_faults names s None = []
view_faults names s (Some (views.As place q)) =
    unknown_name (used_structure names) q
    ++ when
    (is_unrelated names (used_structure names q.name)
    (option_and_then (pool_structure names) (names.pool s.pool.name)))
    conditions.PoolMismatch s.place
view_faults names s (Some (views.Except place q)) =
    unknown_name (plain_set names) q
    ++ when
    (disagree (names.pool s.pool.name) (option_and_then (set_pool names) (plain_set names q.name)))
    conditions.PoolMismatch s.place

abbrev pub set_faults : Names → ℕ → Set → List Fault
set_faults names i s =
    when (not (is_at i (names.set s.name.name))) conditions.NameTwice s.name.place
    ++ (when (nat_eq i most_symbols) conditions.Limit s.name.place
    ++ (unknown_name names.pool s.pool
    ++ view_faults names s s.view))

-- ---- relations, whose names and number are counted with those of sets

abbrev pub source_faults : Names → Var → List Fault
source_faults names (vars.Head place) = []
source_faults names (vars.Name q) = unknown_name names.pool q

abbrev pub target_faults : Names → Target → List Fault
target_faults names (targets.Number place) = []
target_faults names (targets.Pool q) = unknown_name names.pool q

abbrev pub relation_faults : Names → ℕ → Relation → List Fault
relation_faults names i r =
    when (is_some (names.set r.name.name) || not (is_at i (names.relation r.name.name)))
    conditions.NameTwice r.name.place
    ++ (when (nat_eq (length names.tree.sets + i) most_symbols) conditions.Limit r.name.place
    ++ (source_faults names r.source
    ++ target_faults names r.target))

-- ---- supplies

-- whether a pool, a set after `avoid` and all others there are declared
abbrev pub all_sets : Names → List PlacedName → Bool
all_sets names [] = true
all_sets names (q ∷ qs) = is_some (plain_set names q.name) && all_sets names qs

-- whether a set is one of another pool
abbrev pub is_elsewhere : Names → Option ℕ → PlacedName → Bool
is_elsewhere names pool q =
    disagree pool (option_and_then (set_pool names) (plain_set names q.name))

-- whether a supply that names a pool and sets alone avoids a set of another pool
abbrev pub is_supply_mismatch : Names → Option ℕ → List PlacedName → Bool
is_supply_mismatch names pool sets = all_sets names sets && any_of (is_elsewhere names pool) sets

abbrev pub supply_faults : Names → ℕ → Fresh → List Fault
supply_faults names i f =
    when (not (is_at i (names.supply f.pool.name))) conditions.NameTwice f.pool.place
    ++ (unknown_name names.pool f.pool
    ++ (each_at (λ _ q. unknown_name (plain_set names) q) 0 (f.first ∷ f.rest)
    ++ when (is_supply_mismatch names (names.pool f.pool.name) (f.first ∷ f.rest)) conditions.PoolMismatch f.place))

-- ---- all declarations before the rules

-- no structure `Head`
abbrev pub head_faults : Names → List Fault
head_faults names = when (is_none (names.structure (codes "Head"))) conditions.UnknownName 0

abbrev pub faults_with : Names → List Fault
faults_with names =
    head_faults names
    ++ (each_at (structure_faults names) 0 (asked_structures names.tree)
    ++ (each_at (pool_faults names) 0 names.tree.pools
    ++ (each_at (set_faults names) 0 names.tree.sets
    ++ (each_at (relation_faults names) 0 names.tree.relations
    ++ each_at (supply_faults names) 0 names.tree.supplies))))

-- the faults of structures, pools, sets, relations and supplies
abbrev pub declaration_faults : TreeShape → List Fault
declaration_faults t = faults_with (names_of t)
