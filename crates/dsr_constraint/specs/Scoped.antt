-- What the code's records tell, as definitions see it.
use Rattle.std.specs.Prelude.{ℕ, List, [], map, option_map, is_some, ◌||◌, if◌then◌else◌}
use Rattle.std.specs.Str.{bytes_eq}
use Rattle.indexmap.specs.IndexMap.{get}
use Rattle.dsr_ir.specs.Formulas.{FormulaShape, FormulaShapes, MoreOf}
use Rattle.dsr_ir.specs.declared.constraints.Constraint.{Constraint}
use Rattle.dsr_tree.specs.Trees.{constraint_shape, join_shape, unit_shape, in_joins, in_units}
use Rattle.dsr_tree.specs.declared.faults.Fault.{Fault}
use Rattle.dsr_tree.specs.declared.tree.Constraint.{Constraint as ConstraintOf}
use Rattle.dsr_tree.specs.declared.tree.Join.{Join}
use Rattle.dsr_tree.specs.declared.tree.PlacedName.{PlacedName}
use Rattle.dsr_tree.specs.declared.tree.Rule.{Rule}
use Rattle.dsr_tree.specs.declared.tree.Unit.{Unit as UnitOf}
use Rattle.dsr_names.specs.Tables.{known_of}
use Rattle.dsr_names.specs.declared.known.Known.{Known}
use Rattle.dsr_language_theory.specs.Constraints.{joins_faults, units_faults, own_faults, form_faults, constraint_faults, constraints_faults}
use Rattle.dsr_language_theory.specs.TypedConstraints.{Scope as ScopeOf, named_variable, typed_joins, typed_units, typed_constraint, typed_constraints}
use Rattle.dsr_constraint.specs.Widest.{AreLeast}
use Rattle.dsr_constraint.specs.declared.checks.Checker.{Checker}
use Rattle.dsr_constraint.specs.declared.scopes.Scope.{Scope}
use Rattle.dsr_constraint.specs.declared.widths.Constants.{Constants}

-- what the variables of a constraint stand for
abbrev pub scope_told : Scope → ScopeOf
scope_told scope =
    record { known = known_of scope.known; binder = option_map (λ b. b.now) scope.binder; quant = scope.quant }

-- where a size of two names that counts nothing is told: at the second one where the first is known
abbrev pub unknown_place : ScopeOf → PlacedName → PlacedName → ℕ
unknown_place scope a b =
    if is_some (named_variable scope.binder a.name) || is_some (scope.known.relation a.name) then b.place else a.place

-- the widths of constants are those that rules give among these names
abbrev pub Narrow : Known → Constants → Type 0
Narrow known constants = AreLeast (known_of known) constants.rules.now constants.least.now

-- the faults of joins and of units
abbrev pub faults_of_joins : Scope → Constants → List Join → List Fault
faults_of_joins scope constants joins =
    joins_faults (scope_told scope) constants.rules.now (in_joins (map join_shape joins))

abbrev pub faults_of_units : Scope → Constants → List UnitOf → List Fault
faults_of_units scope constants units =
    units_faults (scope_told scope) constants.rules.now (in_units (map unit_shape units))

-- typed joins and units behind a first one
abbrev pub joins_behind : FormulaShape → Scope → List Join → FormulaShapes
joins_behind first scope joins =
    MoreOf first (typed_joins (scope_told scope) (in_joins (map join_shape joins)))

abbrev pub units_behind : FormulaShape → Scope → List UnitOf → FormulaShapes
units_behind first scope units =
    MoreOf first (typed_units (scope_told scope) (in_units (map unit_shape units)))

-- what is wrong with a constraint of this number, apart from its form and a limit
abbrev pub own_faults_of : Checker → ℕ → ConstraintOf → List Fault
own_faults_of checker i c =
    own_faults (known_of checker.known) checker.constants.rules.now
    (get bytes_eq checker.numbers.now) i (constraint_shape c)

-- what is wrong with it at all
abbrev pub faults_of : Checker → ℕ → ConstraintOf → List Fault
faults_of checker i c =
    constraint_faults (known_of checker.known) checker.constants.rules.now
    (get bytes_eq checker.numbers.now) i (constraint_shape c)

-- why a constraint without such faults has no normal form
abbrev pub faults_of_form : Known → ConstraintOf → List Fault
faults_of_form known c = form_faults (known_of known) [] (constraint_shape c)

-- a constraint, as it is typed
abbrev pub typed_of : Known → ConstraintOf → Constraint
typed_of known c = typed_constraint (known_of known) (constraint_shape c)

-- the same of all constraints
abbrev pub faults_of_all : Known → List Rule → List ConstraintOf → List Fault
faults_of_all known rs cs = constraints_faults (known_of known) rs (map constraint_shape cs)

abbrev pub typed_of_all : Known → List ConstraintOf → List Constraint
typed_of_all known cs = typed_constraints (known_of known) (map constraint_shape cs)
