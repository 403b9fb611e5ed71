-- The faults of constraints.
use Rattle.std.specs.Prelude.{ℕ, ◌^◌, Bool, true, false, not, ◌&&◌, ◌||◌, is_none, is_some, nat_eq, nat_le, List, [], ◌∷◌, ◌++◌, Option, None, Some, option_map, option_and_then, if◌then◌else◌, slice_get}
use Rattle.std.specs.List.{position_from}
use Rattle.std.specs.Option.{option_map_or}
use Rattle.std.specs.Str.{bytes_eq}
use Rattle.dsr_ir.specs.declared.constraints.Var.{Var}
use Rattle.dsr_ir.specs.declared.constraints.Var.TheVariants as vars
use Rattle.dsr_ir.specs.declared.declarations.Field.{Field}
use Rattle.dsr_ir.specs.declared.declarations.FieldRef.{FieldRef}
use Rattle.dsr_ir.specs.declared.declarations.Rel.{Rel}
use Rattle.dsr_ir.specs.declared.declarations.Structures.{Structures}
use Rattle.dsr_tree.specs.Trees.{ConstraintTree, FormulaTree, formula_tree, JoinTrees, no_joins, more_joins, JoinTree, join_tree, UnitTrees, no_units, more_units, UnitTree, not_tree, given_tree, parenthesized_tree, atom_tree}
use Rattle.dsr_tree.specs.declared.faults.Condition.TheVariants as conditions
use Rattle.dsr_tree.specs.declared.faults.Fault.{Fault}
use Rattle.dsr_tree.specs.declared.tree.Atom.{Atom}
use Rattle.dsr_tree.specs.declared.tree.Atom.TheVariants as atoms
use Rattle.dsr_tree.specs.declared.tree.Binder.{Binder}
use Rattle.dsr_tree.specs.declared.tree.Binder.TheVariants as binders
use Rattle.dsr_tree.specs.declared.tree.Inclusion.{Inclusion}
use Rattle.dsr_tree.specs.declared.tree.Inclusion.TheVariants as inclusions
use Rattle.dsr_tree.specs.declared.tree.Measure.{Measure}
use Rattle.dsr_tree.specs.declared.tree.Measure.TheVariants as measures
use Rattle.dsr_tree.specs.declared.tree.PlacedName.{PlacedName}
use Rattle.dsr_tree.specs.declared.tree.Quantifier.{Quantifier}
use Rattle.dsr_tree.specs.declared.tree.Rule.{Rule}
use Rattle.dsr_tree.specs.declared.tree.Var.{Var as VarTree}
use Rattle.dsr_tree.specs.declared.tree.Var.TheVariants as var_trees
use Rattle.dsr_meaning.specs.Cells.{width_bits}
use Rattle.dsr_meaning.specs.Lists.{any_of, each_at}
use Rattle.dsr_meaning.specs.Typed.{pool_of_var, constraint_limit}
use Rattle.dsr_language_theory.specs.Declarations.{disagree}
use Rattle.dsr_language_theory.specs.Faults.{when}
use Rattle.dsr_language_theory.specs.Names.{is_at}
use Rattle.dsr_language_theory.specs.Known.{Known, is_nil, set_named, relation_named, unknown, field_is}
use Rattle.dsr_language_theory.specs.NormalForms.{Refusal, negated_value, too_many_conjunctions, too_many_atoms, refusal_of}
use Rattle.dsr_language_theory.specs.RuleFaults.{is_other_target}
use Rattle.dsr_language_theory.specs.Rules as rules
use Rattle.dsr_language_theory.specs.TypedConstraints.{Scope, scope_of, variable, named_variable, relation_of, set_of, counts_targets, counts_sources, typed_formula}

-- ---- variables

-- the pool of a variable, where that is known; that of the head is 0
abbrev pub var_pool : Scope → Option Var → Option ℕ
var_pool scope None = None
var_pool scope (Some vars.Head) = Some 0
var_pool scope (Some v) = option_and_then (λ q. pool_of_var scope.known.base q v) scope.quant

abbrev pub pool_of : Scope → VarTree → Option ℕ
pool_of scope v = var_pool scope (variable scope v)

-- a name that is no variable
abbrev pub variable_faults : Scope → VarTree → List Fault
variable_faults scope (var_trees.Head place) = []
variable_faults scope (var_trees.Name q) = unknown (named_variable scope.binder q.name) q

-- ---- quantifiers

-- a relation to numbers binds no records
abbrev pub gives_numbers : Known → Binder → List ℕ → Bool
gives_numbers known (binders.One name) q = false
gives_numbers known (binders.Pair place first second) q =
    option_map_or (λ r. is_none r.target) (relation_named known q) false

-- both variables have one name
abbrev pub binder_faults : Binder → List Fault
binder_faults (binders.One name) = []
binder_faults (binders.Pair place first second) =
    when (bytes_eq first.name second.name) conditions.NameTwice second.place

abbrev pub symbol_faults : Known → Binder → PlacedName → List Fault
symbol_faults known (binders.One name) q = unknown (known.set q.name) q
symbol_faults known (binders.Pair place first second) q = unknown (known.relation q.name) q

abbrev pub quantifier_faults : Known → Option Quantifier → List Fault
quantifier_faults known None = []
quantifier_faults known (Some q) =
    symbol_faults known q.binder q.symbol
    ++ (binder_faults q.binder
    ++ when (gives_numbers known q.binder q.symbol.name) conditions.PoolMismatch q.place)

-- ---- sizes

-- the names of a size that stand for nothing: at b in `size(a.b)`
-- where a is a variable or a relation, and otherwise at a
abbrev pub size_names : Scope → VarTree → Option PlacedName → List Fault
size_names scope (var_trees.Head place) None = []
size_names scope (var_trees.Name a) None = unknown (scope.known.set a.name) a
size_names scope (var_trees.Head place) (Some b) = unknown (scope.known.relation b.name) b
size_names scope (var_trees.Name a) (Some b) =
    if counts_targets scope (var_trees.Name a) b || counts_sources scope (var_trees.Name a) b then []
    else when true conditions.UnknownName
    (if is_some (named_variable scope.binder a.name) || is_some (scope.known.relation a.name)
    then b.place else a.place)

-- a relation has another source than a variable, or other targets
abbrev pub has_other_source : Option Rel → Option ℕ → Bool
has_other_source None pool = false
has_other_source (Some r) pool = disagree pool (Some r.source)

abbrev pub has_other_targets : Option Rel → Option ℕ → Bool
has_other_targets None pool = false
has_other_targets (Some r) None = false
has_other_targets (Some r) (Some p) = is_other_target (Some p) r.target

-- the same of a pair, where a relation to numbers is none of the variable's
abbrev pub has_other_target : Option Rel → Option ℕ → Bool
has_other_target None pool = false
has_other_target (Some r) pool = is_none r.target || has_other_targets (Some r) pool

abbrev pub relation_at : Known → VarTree → Option Rel
relation_at known a = option_and_then (slice_get known.base.rels) (relation_of known a)

-- the size isn't one of a form, or a relation hasn't the variable's pool
abbrev pub size_mismatches : Scope → VarTree → Option PlacedName → Bool
size_mismatches scope (var_trees.Head place) None = true
size_mismatches scope (var_trees.Name a) None = false
size_mismatches scope a (Some b) =
    if counts_targets scope a b then has_other_source (relation_named scope.known b.name) (pool_of scope a)
    else has_other_targets (relation_at scope.known a) (pool_of scope (var_trees.Name b))

-- what is counted are numbers
abbrev pub counts_numbers : Scope → VarTree → Option PlacedName → Bool
counts_numbers scope a None = false
counts_numbers scope a (Some b) =
    counts_targets scope a b && option_map_or (λ r. is_none r.target) (relation_named scope.known b.name) false

-- ---- constants

-- the field whose values an inclusion gives to a relation, where that is known
abbrev pub inclusion_field : Known → ℕ → rules.Scope → Inclusion → Option FieldRef
inclusion_field known rel scope (inclusions.Pair place term path relation) =
    if is_at rel (known.relation relation.name) then rules.path_field scope path.var path.field else None
inclusion_field known rel scope (inclusions.Member member set) = None

-- The field whose values a rule gives to a relation. A rule in whose text it can't be known counts
-- as none; in a specification without faults there is no such rule.
abbrev pub value_field : Known → ℕ → Rule → Option FieldRef
value_field known rel r = inclusion_field known rel (rules.scope_of known r) r.inclusion

-- a field has no room for a constant
abbrev pub is_too_narrow : ℕ → Field → Bool
is_too_narrow k f = nat_le (2 ^ width_bits f.width) k

-- a constant is too great for the field of some rule of a relation
abbrev pub is_too_great : Known → List Rule → ℕ → Option ℕ → Bool
is_too_great known rs k None = false
is_too_great known rs k (Some rel) =
    any_of (λ r. field_is known.base (is_too_narrow k) (value_field known rel r)) rs

-- ---- atoms

-- what a value is compared with
abbrev pub measure_names : Scope → Measure → List Fault
measure_names scope (measures.Number number) = []
measure_names scope (measures.Size size) = size_names scope size.var size.part

abbrev pub measure_mismatches : Scope → Measure → Bool
measure_mismatches scope (measures.Number number) = false
measure_mismatches scope (measures.Size size) =
    size_mismatches scope size.var size.part || counts_numbers scope size.var size.part

abbrev pub measure_faults : Known → List Rule → Option ℕ → Measure → List Fault
measure_faults known rs rel (measures.Number number) =
    when (is_too_great known rs number.number rel) conditions.Width number.place
measure_faults known rs rel (measures.Size size) = []

-- where an atom begins
abbrev pub atom_place : Atom → ℕ
atom_place (atoms.Count size bound number) = size.place
atom_place (atoms.Pair place first second relation) = place
atom_place (atoms.Member var set) = rules.var_place var
atom_place (atoms.Value var relation compare measure) = rules.var_place var

-- the names of an atom that stand for nothing
abbrev pub atom_names : Scope → Atom → List Fault
atom_names scope (atoms.Count size bound number) = size_names scope size.var size.part
atom_names scope (atoms.Pair place first second relation) =
    variable_faults scope first
    ++ (variable_faults scope second ++ unknown (scope.known.relation relation.name) relation)
atom_names scope (atoms.Member var set) =
    variable_faults scope var ++ unknown (scope.known.set set.name) set
atom_names scope (atoms.Value var relation compare measure) =
    variable_faults scope var
    ++ (unknown (scope.known.relation relation.name) relation ++ measure_names scope measure)

-- a relation has another source than the first variable, or other targets than the second
abbrev pub pairs_others : Scope → VarTree → VarTree → Option Rel → Bool
pairs_others scope first second rel =
    has_other_source rel (pool_of scope first) || has_other_target rel (pool_of scope second)

-- a relation to records has another source than the variable, as has any to numbers
abbrev pub values_others : Option Rel → Option ℕ → Bool
values_others None pool = false
values_others (Some r) pool = is_some r.target || disagree pool (Some r.source)

abbrev pub atom_mismatches : Scope → Atom → Bool
atom_mismatches scope (atoms.Count size bound number) = size_mismatches scope size.var size.part
atom_mismatches scope (atoms.Pair place first second relation) =
    pairs_others scope first second (relation_named scope.known relation.name)
atom_mismatches scope (atoms.Member var set) =
    disagree (pool_of scope var) (option_map (λ s. s.pool) (set_named scope.known set.name))
atom_mismatches scope (atoms.Value var relation compare measure) =
    values_others (relation_named scope.known relation.name) (pool_of scope var) || measure_mismatches scope measure

abbrev pub atom_constants : Scope → List Rule → Atom → List Fault
atom_constants scope rs (atoms.Value var relation compare measure) =
    measure_faults scope.known rs (scope.known.relation relation.name) measure
atom_constants scope rs _ = []

-- pools and kinds are asked only where each name stands for something
abbrev pub atom_faults : Scope → List Rule → Atom → List Fault
atom_faults scope rs atom =
    atom_names scope atom
    ++ (when (is_nil (atom_names scope atom) && atom_mismatches scope atom) conditions.PoolMismatch (atom_place atom)
    ++ atom_constants scope rs atom)

-- ---- formulas

-- those of all atoms, in order
abbrev mutual
  pub formula_faults : Scope → List Rule → FormulaTree → List Fault
  formula_faults scope rs (formula_tree first rest) = join_faults scope rs first ++ joins_faults scope rs rest

  pub joins_faults : Scope → List Rule → JoinTrees → List Fault
  joins_faults scope rs no_joins = []
  joins_faults scope rs (more_joins join rest) = join_faults scope rs join ++ joins_faults scope rs rest

  pub join_faults : Scope → List Rule → JoinTree → List Fault
  join_faults scope rs (join_tree first rest) = unit_faults scope rs first ++ units_faults scope rs rest

  pub units_faults : Scope → List Rule → UnitTrees → List Fault
  units_faults scope rs no_units = []
  units_faults scope rs (more_units unit rest) = unit_faults scope rs unit ++ units_faults scope rs rest

  pub unit_faults : Scope → List Rule → UnitTree → List Fault
  unit_faults scope rs (not_tree place unit) = unit_faults scope rs unit
  unit_faults scope rs (given_tree place unit) = unit_faults scope rs unit
  unit_faults scope rs (parenthesized_tree place formula) = formula_faults scope rs formula
  unit_faults scope rs (atom_tree atom) = atom_faults scope rs atom

-- a size or a value
abbrev pub is_value : Atom → Bool
is_value (atoms.Count size bound number) = true
is_value (atoms.Value var relation compare measure) = true
is_value _ = false

-- a size or a value stands in a formula
abbrev mutual
  pub has_value : FormulaTree → Bool
  has_value (formula_tree first rest) = join_has_value first || joins_have_value rest

  pub joins_have_value : JoinTrees → Bool
  joins_have_value no_joins = false
  joins_have_value (more_joins join rest) = join_has_value join || joins_have_value rest

  pub join_has_value : JoinTree → Bool
  join_has_value (join_tree first rest) = unit_has_value first || units_have_value rest

  pub units_have_value : UnitTrees → Bool
  units_have_value no_units = false
  units_have_value (more_units unit rest) = unit_has_value unit || units_have_value rest

  pub unit_has_value : UnitTree → Bool
  unit_has_value (not_tree place unit) = unit_has_value unit
  unit_has_value (given_tree place unit) = unit_has_value unit
  unit_has_value (parenthesized_tree place formula) = has_value formula
  unit_has_value (atom_tree atom) = is_value atom

-- the outermost `not` above a size or a value, each
abbrev mutual
  pub negations : FormulaTree → List Fault
  negations (formula_tree first rest) = join_negations first ++ joins_negations rest

  pub joins_negations : JoinTrees → List Fault
  joins_negations no_joins = []
  joins_negations (more_joins join rest) = join_negations join ++ joins_negations rest

  pub join_negations : JoinTree → List Fault
  join_negations (join_tree first rest) = unit_negations first ++ units_negations rest

  pub units_negations : UnitTrees → List Fault
  units_negations no_units = []
  units_negations (more_units unit rest) = unit_negations unit ++ units_negations rest

  pub unit_negations : UnitTree → List Fault
  unit_negations (not_tree place unit) = when (unit_has_value unit) conditions.NegatedValue place
  unit_negations (given_tree place unit) = unit_negations unit
  unit_negations (parenthesized_tree place formula) = negations formula
  unit_negations (atom_tree atom) = []

-- ---- constraints

-- the number of the first constraint that has a name
abbrev pub constraint_number : List ConstraintTree → List ℕ → Option ℕ
constraint_number constraints q = position_from (λ c. bytes_eq c.name.name q) 0 constraints

-- what is wrong with the names, pools, kinds and constants of a constraint
abbrev pub own_faults : Known → List Rule → (List ℕ → Option ℕ) → ℕ → ConstraintTree → List Fault
own_faults known rs number i c =
    when (not (is_at i (number c.name.name))) conditions.NameTwice c.name.place
    ++ (quantifier_faults known c.quantifier
    ++ formula_faults (scope_of known c.quantifier) rs c.formula)

-- why its formula has no normal form
abbrev pub refusal_faults : ConstraintTree → Option Refusal → List Fault
refusal_faults c None = []
refusal_faults c (Some negated_value) = negations c.formula
refusal_faults c (Some too_many_conjunctions) =
    when true conditions.TooManyConjunctions c.name.place
refusal_faults c (Some too_many_atoms) = when true conditions.TooManyAtoms c.name.place

-- the normal form is asked only where nothing else is wrong; 64 constraints are allowed, 128 in
-- version 2
abbrev pub form_faults : Known → List Fault → ConstraintTree → List Fault
form_faults known [] c =
    refusal_faults c (refusal_of (typed_formula (scope_of known c.quantifier) c.formula))
form_faults known (fault ∷ faults) c = []

abbrev pub constraint_faults :
    Known → List Rule → (List ℕ → Option ℕ) → ℕ → ConstraintTree → List Fault
constraint_faults known rs number i c =
    when (nat_eq i (constraint_limit known.base.version)) conditions.Limit c.name.place
    ++ (own_faults known rs number i c
    ++ form_faults known (own_faults known rs number i c) c)

abbrev pub constraints_faults : Known → List Rule → List ConstraintTree → List Fault
constraints_faults known rs constraints =
    each_at (constraint_faults known rs (constraint_number constraints)) 0 constraints
