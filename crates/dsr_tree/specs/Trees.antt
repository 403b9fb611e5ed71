-- What the tree of a text is, apart from where its expressions and formulas lie in memory.
use Rattle.std.specs.Prelude.{ℕ, List, [], ◌∷◌, map, Option, option_map}
use Rattle.dsr_ir.specs.declared.declarations.Order.{Order}
use Rattle.dsr_tree.specs.declared.tree.Atom.{Atom}
use Rattle.dsr_tree.specs.declared.tree.Constraint.{Constraint}
use Rattle.dsr_tree.specs.declared.tree.Content.{Content}
use Rattle.dsr_tree.specs.declared.tree.Expr.{Expr, Expr', Row_of-MoreTerm, end_of-MoreTerm, more_of-MoreTerm}
use Rattle.dsr_tree.specs.declared.tree.Factor.{Factor, Number, Name, Group'}
use Rattle.dsr_tree.specs.declared.tree.Field.{Field}
use Rattle.dsr_tree.specs.declared.tree.Field.TheVariants as fields
use Rattle.dsr_tree.specs.declared.tree.Formula.{Formula, Formula', Row_of-Join, end_of-Join, more_of-Join}
use Rattle.dsr_tree.specs.declared.tree.Fresh.{Fresh}
use Rattle.dsr_tree.specs.declared.tree.Join.{Join, Row_of-Unit, end_of-Unit, more_of-Unit}
use Rattle.dsr_tree.specs.declared.tree.MoreFactor.{MoreFactor}
use Rattle.dsr_tree.specs.declared.tree.MoreTerm.{MoreTerm, MoreTerm'}
use Rattle.dsr_tree.specs.declared.tree.NamedField.{NamedField}
use Rattle.dsr_tree.specs.declared.tree.PlacedName.{PlacedName}
use Rattle.dsr_tree.specs.declared.tree.PlacedNumber.{PlacedNumber}
use Rattle.dsr_tree.specs.declared.tree.Pool.{Pool}
use Rattle.dsr_tree.specs.declared.tree.ProductSign.{ProductSign}
use Rattle.dsr_tree.specs.declared.tree.Quantifier.{Quantifier}
use Rattle.dsr_tree.specs.declared.tree.Relation.{Relation}
use Rattle.dsr_tree.specs.declared.tree.Rule.{Rule}
use Rattle.dsr_tree.specs.declared.tree.Set.{Set}
use Rattle.dsr_tree.specs.declared.tree.Structure.{Structure}
use Rattle.dsr_tree.specs.declared.tree.SumSign.{SumSign}
use Rattle.dsr_tree.specs.declared.tree.Term2.{Term2, Term2', Row_of-MoreFactor, end_of-MoreFactor, more_of-MoreFactor}
use Rattle.dsr_tree.specs.declared.tree.Tree.{Tree}
use Rattle.dsr_tree.specs.declared.tree.Unit.{Unit as UnitOf, Not', Given', Group' as Parenthesized', Atom as AtomOf}
use Rattle.dsr_tree.specs.declared.tree.Width.{Width}

-- an expression, its terms and their factors
mutual
  pub data ExprTree : Type 0 where
    expr_tree : (first : TermTree) (rest : MoreTermTrees) → ExprTree

  pub data MoreTermTrees : Type 0 where
    no_terms : MoreTermTrees
    more_terms : (sign : SumSign) (term : TermTree) (rest : MoreTermTrees) → MoreTermTrees

  pub data TermTree : Type 0 where
    term_tree : (first : FactorTree) (rest : MoreFactorTrees) → TermTree

  pub data MoreFactorTrees : Type 0 where
    no_factors : MoreFactorTrees
    more_factors :
        (sign : ProductSign) (factor : FactorTree) (rest : MoreFactorTrees) → MoreFactorTrees

  pub data FactorTree : Type 0 where
    number_tree : (number : PlacedNumber) → FactorTree
    name_tree : (name : PlacedName) → FactorTree
    group_tree : (place : ℕ) (inner : ExprTree) → FactorTree

-- the shape of an expression
abbrev mutual
  pub expr_shape : Expr → ExprTree
  expr_shape (Expr' first room rest) = expr_tree (term_shape first) (terms_shape rest)

  pub terms_shape : {n : _} → Row_of-MoreTerm n → MoreTermTrees
  terms_shape end_of-MoreTerm = no_terms
  terms_shape (more_of-MoreTerm (MoreTerm' sign term) rest) = more_terms sign (term_shape term) (terms_shape rest)

  pub term_shape : Term2 → TermTree
  term_shape (Term2' first room rest) = term_tree (factor_shape first) (factors_shape rest)

  pub factors_shape : {n : _} → Row_of-MoreFactor n → MoreFactorTrees
  factors_shape end_of-MoreFactor = no_factors
  factors_shape (more_of-MoreFactor sign factor rest) = more_factors sign (factor_shape factor) (factors_shape rest)

  pub factor_shape : Factor → FactorTree
  factor_shape (Number number) = number_tree number
  factor_shape (Name name) = name_tree name
  factor_shape (Group' place room inner) = group_tree place (expr_shape inner)

-- a term behind its sign
pub record MoreTermTree : Type 0 where
  pub sign : SumSign
  pub term : TermTree

abbrev pub more_term_shape : MoreTerm → MoreTermTree
more_term_shape (MoreTerm' sign term) = record { sign = sign; term = term_shape term }

-- a factor behind its sign
pub record MoreFactorTree : Type 0 where
  pub sign : ProductSign
  pub factor : FactorTree

abbrev pub more_factor_shape : MoreFactor → MoreFactorTree
more_factor_shape more = record { sign = more.sign; factor = factor_shape more.factor }

-- the terms of a list behind the first one
abbrev pub in_terms : List MoreTermTree → MoreTermTrees
in_terms [] = no_terms
in_terms (more ∷ rest) = more_terms more.sign more.term (in_terms rest)

-- the factors of a list behind the first one
abbrev pub in_factors : List MoreFactorTree → MoreFactorTrees
in_factors [] = no_factors
in_factors (more ∷ rest) = more_factors more.sign more.factor (in_factors rest)

-- a formula, its joins and their units
mutual
  pub data FormulaTree : Type 0 where
    formula_tree : (first : JoinTree) (rest : JoinTrees) → FormulaTree

  pub data JoinTrees : Type 0 where
    no_joins : JoinTrees
    more_joins : (join : JoinTree) (rest : JoinTrees) → JoinTrees

  pub data JoinTree : Type 0 where
    join_tree : (first : UnitTree) (rest : UnitTrees) → JoinTree

  pub data UnitTrees : Type 0 where
    no_units : UnitTrees
    more_units : (unit : UnitTree) (rest : UnitTrees) → UnitTrees

  pub data UnitTree : Type 0 where
    not_tree : (place : ℕ) (unit : UnitTree) → UnitTree
    given_tree : (place : ℕ) (unit : UnitTree) → UnitTree
    parenthesized_tree : (place : ℕ) (formula : FormulaTree) → UnitTree
    atom_tree : (atom : Atom) → UnitTree

-- the shape of a formula
abbrev mutual
  pub formula_shape : Formula → FormulaTree
  formula_shape (Formula' first room units place joins) =
      formula_tree (join_tree (unit_shape first) (units_shape units)) (joins_shape joins)

  pub joins_shape : {n : _} → Row_of-Join n → JoinTrees
  joins_shape end_of-Join = no_joins
  joins_shape (more_of-Join first room units rest) =
      more_joins (join_tree (unit_shape first) (units_shape units)) (joins_shape rest)

  pub units_shape : {n : _} → Row_of-Unit n → UnitTrees
  units_shape end_of-Unit = no_units
  units_shape (more_of-Unit unit rest) = more_units (unit_shape unit) (units_shape rest)

  pub unit_shape : UnitOf → UnitTree
  unit_shape (Not' place room unit) = not_tree place (unit_shape unit)
  unit_shape (Given' place room unit) = given_tree place (unit_shape unit)
  unit_shape (Parenthesized' place room formula) = parenthesized_tree place (formula_shape formula)
  unit_shape (AtomOf atom) = atom_tree atom

-- the units of a list behind the first one
abbrev pub in_units : List UnitTree → UnitTrees
in_units [] = no_units
in_units (unit ∷ rest) = more_units unit (in_units rest)

-- the joins of a list behind the first one
abbrev pub in_joins : List JoinTree → JoinTrees
in_joins [] = no_joins
in_joins (join ∷ rest) = more_joins join (in_joins rest)

-- the shape of a join
abbrev pub join_shape : Join → JoinTree
join_shape join = join_tree (unit_shape join.first) (in_units (map unit_shape join.rest.items))

-- a field with a name
pub record NamedFieldTree : Type 0 where
  pub fixed : Option ℕ
  pub width : Width
  pub name : PlacedName
  pub length : Option ExprTree
  pub content : Option Content

-- a field, or bytes that are skipped
pub data FieldTree : Type 0 where
  named : (field : NamedFieldTree) → FieldTree
  skipped : (place : ℕ) (length : ExprTree) → FieldTree

abbrev pub named_shape : NamedField → NamedFieldTree
named_shape f =
    record {
      fixed = f.fixed;
      width = f.width;
      name = f.name;
      length = option_map expr_shape f.length;
      content = f.content;
    }

-- the shape of a field
abbrev pub field_shape : Field → FieldTree
field_shape (fields.Named f) = named (named_shape f)
field_shape (fields.Skip place length) = skipped place (expr_shape length)

-- a structure
pub record StructureTree : Type 0 where
  pub place : ℕ
  pub name : PlacedName
  pub parent : Option PlacedName
  pub fields : List FieldTree

-- the shape of a structure
abbrev pub structure_shape : Structure → StructureTree
structure_shape s =
    record { place = s.place; name = s.name; parent = s.parent; fields = map field_shape s.fields }

-- a pool
pub record PoolTree : Type 0 where
  pub place : ℕ
  pub name : PlacedName
  pub structure : PlacedName
  pub count : ExprTree
  pub slot : Option ExprTree
  pub start : ExprTree
  pub code : ExprTree
  pub step : ExprTree
  pub none : ExprTree

-- the shape of a pool
abbrev pub pool_shape : Pool → PoolTree
pool_shape p =
    record {
      place = p.place;
      name = p.name;
      structure = p.structure;
      count = expr_shape p.count;
      slot = option_map expr_shape p.slot;
      start = expr_shape p.start;
      code = expr_shape p.code;
      step = expr_shape p.step;
      none = expr_shape p.none;
    }

-- a constraint
pub record ConstraintTree : Type 0 where
  pub place : ℕ
  pub name : PlacedName
  pub quantifier : Option Quantifier
  pub formula : FormulaTree

-- the shape of a constraint
abbrev pub constraint_shape : Constraint → ConstraintTree
constraint_shape c =
    record { place = c.place; name = c.name; quantifier = c.quantifier; formula = formula_shape c.formula }

-- a whole tree
pub record TreeShape : Type 0 where
  pub place : ℕ
  pub version : PlacedNumber
  pub order : Order
  pub structures : List StructureTree
  pub pools : List PoolTree
  pub sets : List Set
  pub relations : List Relation
  pub supplies : List Fresh
  pub rules : List Rule
  pub constraints : List ConstraintTree

-- the shape of a tree
abbrev pub tree_shape : Tree → TreeShape
tree_shape t =
    record {
      place = t.place;
      version = t.version;
      order = t.order;
      structures = map structure_shape t.structures;
      pools = map pool_shape t.pools;
      sets = t.sets;
      relations = t.relations;
      supplies = t.supplies;
      rules = t.rules;
      constraints = map constraint_shape t.constraints;
    }
