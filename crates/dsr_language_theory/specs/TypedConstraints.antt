-- The constraints that a text means, where they have no fault.
use Rattle.std.specs.Prelude.{ℕ, Bool, not, ◌&&◌, ◌||◌, is_some, List, [], ◌∷◌, map, Option, None, Some, unwrap_or, slice_get, option_map, option_and_then, if◌then◌else◌}
use Rattle.std.specs.Str.{bytes_eq}
use Rattle.dsr_ir.specs.Formulas.{FormulaShape, AnyOf, EveryOf, NotOf, GivenOf, LeafOf, FormulaShapes, NoneOf, MoreOf}
use Rattle.dsr_ir.specs.declared.constraints.Atom.{Atom}
use Rattle.dsr_ir.specs.declared.constraints.Atom.TheVariants as atoms
use Rattle.dsr_ir.specs.declared.constraints.Bound.{Bound}
use Rattle.dsr_ir.specs.declared.constraints.Bound.TheVariants as bounds
use Rattle.dsr_ir.specs.declared.constraints.Conj.{Conj}
use Rattle.dsr_ir.specs.declared.constraints.Constraint.{Constraint}
use Rattle.dsr_ir.specs.declared.constraints.Literal.{Literal}
use Rattle.dsr_ir.specs.declared.constraints.Measure.{Measure}
use Rattle.dsr_ir.specs.declared.constraints.Measure.TheVariants as measures
use Rattle.dsr_ir.specs.declared.constraints.Quant.{Quant}
use Rattle.dsr_ir.specs.declared.constraints.Quant.TheVariants as quants
use Rattle.dsr_ir.specs.declared.constraints.Var.{Var}
use Rattle.dsr_ir.specs.declared.constraints.Var.TheVariants as vars
use Rattle.dsr_ir.specs.declared.declarations.Structures.{Structures}
use Rattle.dsr_ir.specs.declared.rules.Op.{Op}
use Rattle.dsr_ir.specs.declared.rules.Op.TheVariants as ops
use Rattle.dsr_tree.specs.Trees.{ConstraintTree, FormulaTree, formula_tree, JoinTrees, no_joins, more_joins, JoinTree, join_tree, UnitTrees, no_units, more_units, UnitTree, not_tree, given_tree, parenthesized_tree, atom_tree}
use Rattle.dsr_tree.specs.declared.tree.Atom.{Atom as AtomTree}
use Rattle.dsr_tree.specs.declared.tree.Atom.TheVariants as atom_trees
use Rattle.dsr_tree.specs.declared.tree.Binder.{Binder}
use Rattle.dsr_tree.specs.declared.tree.Binder.TheVariants as binders
use Rattle.dsr_tree.specs.declared.tree.Bound.{Bound as BoundTree}
use Rattle.dsr_tree.specs.declared.tree.Bound.TheVariants as bound_trees
use Rattle.dsr_tree.specs.declared.tree.Measure.{Measure as MeasureTree}
use Rattle.dsr_tree.specs.declared.tree.Measure.TheVariants as measure_trees
use Rattle.dsr_tree.specs.declared.tree.PlacedName.{PlacedName}
use Rattle.dsr_tree.specs.declared.tree.Quantifier.{Quantifier}
use Rattle.dsr_tree.specs.declared.tree.Size.{Size}
use Rattle.dsr_tree.specs.declared.tree.Var.{Var as VarTree}
use Rattle.dsr_tree.specs.declared.tree.Var.TheVariants as var_trees
use Rattle.dsr_language_theory.specs.Known.{Known}
use Rattle.dsr_language_theory.specs.NormalForms.{normal_form}
use Rattle.dsr_language_theory.specs.TypedRules.{number_of, typed_compare}

-- ---- variables

-- what the variables of a constraint stand for
pub record Scope : Type 0 where
  pub known : Known
  pub binder : Option Binder
  -- what is bound, where its set or relation is known
  pub quant : Option Quant

-- what a quantifier binds
abbrev pub bound_symbol : Known → Binder → List ℕ → Option Quant
bound_symbol known (binders.One name) q = option_map quants.Each (known.set q)
bound_symbol known (binders.Pair place first second) q = option_map quants.Pairs (known.relation q)

abbrev pub quant_of : Known → Option Quantifier → Option Quant
quant_of known None = Some quants.Once
quant_of known (Some q) = bound_symbol known q.binder q.symbol.name

abbrev pub scope_of : Known → Option Quantifier → Scope
scope_of known quantifier =
    record { known = known; binder = option_map (λ q. q.binder) quantifier; quant = quant_of known quantifier }

-- the variable that has a name; the first one where both have it
abbrev pub named_variable : Option Binder → List ℕ → Option Var
named_variable None q = None
named_variable (Some (binders.One name)) q = if bytes_eq name.name q then Some vars.First else None
named_variable (Some (binders.Pair place first second)) q =
    if bytes_eq first.name q then Some vars.First else if bytes_eq second.name q then Some vars.Second else None

abbrev pub variable : Scope → VarTree → Option Var
variable scope (var_trees.Head place) = Some vars.Head
variable scope (var_trees.Name q) = named_variable scope.binder q.name

-- without faults each variable is bound
abbrev pub variable_in : Scope → VarTree → Var
variable_in scope v = unwrap_or (variable scope v) vars.Head

-- ---- atoms

abbrev pub typed_bound : BoundTree → Op
typed_bound bound_trees.AtMost = ops.Le
typed_bound bound_trees.AtLeast = ops.Ge
typed_bound bound_trees.Equal = ops.Eq

-- a relation of the name `head` is none
abbrev pub relation_of : Known → VarTree → Option ℕ
relation_of known (var_trees.Head place) = None
relation_of known (var_trees.Name q) = known.relation q.name

abbrev pub set_of : Known → VarTree → Option ℕ
set_of known (var_trees.Head place) = None
set_of known (var_trees.Name q) = known.set q.name

-- `size(a.b)` counts the targets of a variable a under a relation b
abbrev pub counts_targets : Scope → VarTree → PlacedName → Bool
counts_targets scope a b = is_some (variable scope a) && is_some (scope.known.relation b.name)

-- otherwise it counts the sources of a variable b under a relation a
abbrev pub counts_sources : Scope → VarTree → PlacedName → Bool
counts_sources scope a b =
    is_some (relation_of scope.known a) && is_some (named_variable scope.binder b.name)

abbrev pub typed_size : Scope → VarTree → Option PlacedName → Measure
typed_size scope a None = measures.Whole (number_of (set_of scope.known a))
typed_size scope a (Some b) =
    if counts_targets scope a b then measures.Out (variable_in scope a) (number_of (scope.known.relation b.name))
    else measures.Into (number_of (relation_of scope.known a)) (variable_in scope (var_trees.Name b))

abbrev pub typed_measure : Scope → MeasureTree → Bound
typed_measure scope (measure_trees.Number number) = bounds.Num number.number
typed_measure scope (measure_trees.Size size) = bounds.Size (typed_size scope size.var size.part)

abbrev pub typed_atom : Scope → AtomTree → Atom
typed_atom scope (atom_trees.Count size bound number) =
    atoms.Count (typed_size scope size.var size.part) (typed_bound bound) number.number
typed_atom scope (atom_trees.Pair place first second relation) =
    atoms.Pair (variable_in scope first) (variable_in scope second) (number_of (scope.known.relation relation.name))
typed_atom scope (atom_trees.Member var set) =
    atoms.Member (variable_in scope var) (number_of (scope.known.set set.name))
typed_atom scope (atom_trees.Value var relation compare measure) =
    atoms.Value (variable_in scope var) (number_of (scope.known.relation relation.name))
    (typed_compare compare) (typed_measure scope measure)

-- ---- formulas; parentheses leave no trace

-- A formula of one part is an `or` of an `and` of one, whose normal form is that of the part.
abbrev mutual
  pub typed_formula : Scope → FormulaTree → FormulaShape
  typed_formula scope (formula_tree first rest) = AnyOf (MoreOf (typed_join scope first) (typed_joins scope rest))

  pub typed_joins : Scope → JoinTrees → FormulaShapes
  typed_joins scope no_joins = NoneOf
  typed_joins scope (more_joins join rest) = MoreOf (typed_join scope join) (typed_joins scope rest)

  pub typed_join : Scope → JoinTree → FormulaShape
  typed_join scope (join_tree first rest) = EveryOf (MoreOf (typed_unit scope first) (typed_units scope rest))

  pub typed_units : Scope → UnitTrees → FormulaShapes
  typed_units scope no_units = NoneOf
  typed_units scope (more_units unit rest) = MoreOf (typed_unit scope unit) (typed_units scope rest)

  pub typed_unit : Scope → UnitTree → FormulaShape
  typed_unit scope (not_tree place unit) = NotOf (typed_unit scope unit)
  typed_unit scope (given_tree place unit) = GivenOf (typed_unit scope unit)
  typed_unit scope (parenthesized_tree place formula) = typed_formula scope formula
  typed_unit scope (atom_tree atom) = LeafOf (typed_atom scope atom)

-- ---- complements

-- the set of which a set is the complement
abbrev pub base_of : Structures → ℕ → Option ℕ
base_of base set = option_and_then (λ s. s.except) (slice_get base.sets set)

-- a member of a complement is no member of its base
abbrev pub over_base : Literal → Var → Option ℕ → Literal
over_base literal v None = literal
over_base literal v (Some set) =
    record { atom = atoms.Member v set; negated = not literal.negated; given = literal.given }

abbrev pub without_complement_at : Structures → Literal → Atom → Literal
without_complement_at base literal (atoms.Member v set) = over_base literal v (base_of base set)
without_complement_at base literal _ = literal

-- a literal, with the base of a complement in its place
abbrev pub without_complement : Structures → Literal → Literal
without_complement base literal = without_complement_at base literal literal.atom

abbrev pub without_complements : Structures → Conj → Conj
without_complements base conj = record { literals = map (without_complement base) conj.literals }

-- ---- constraints

-- without faults the quantifier's set or relation is known
abbrev pub typed_quant : Scope → Quant
typed_quant scope = unwrap_or scope.quant quants.Once

-- Each complement gives way to its base after the normal form and its limits, so two atoms that
-- become one count as two.
abbrev pub typed_constraint : Known → ConstraintTree → Constraint
typed_constraint known c = record {
  name = c.name.name;
  quant = typed_quant (scope_of known c.quantifier);
  conjs = map (without_complements known.base) (normal_form (typed_formula (scope_of known c.quantifier) c.formula));
}

abbrev pub typed_constraints : Known → List ConstraintTree → List Constraint
typed_constraints known constraints = map (typed_constraint known) constraints
