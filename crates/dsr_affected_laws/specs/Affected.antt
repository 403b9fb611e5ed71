-- On which symbols and constraints the bits of some fields may bear.
use Rattle.std.specs.Prelude.{◌≡◌, ℕ, Bool, List, [], ◌∷◌, Some, IsTrue, slice_get}
use Rattle.dsr_ir.specs.Rules.{symbol_of}
use Rattle.dsr_ir.specs.declared.constraints.Atom.{Atom}
use Rattle.dsr_ir.specs.declared.constraints.Atom.TheVariants as atoms
use Rattle.dsr_ir.specs.declared.constraints.Bound.{Bound}
use Rattle.dsr_ir.specs.declared.constraints.Bound.TheVariants as bounds
use Rattle.dsr_ir.specs.declared.constraints.Conj.{Conj}
use Rattle.dsr_ir.specs.declared.constraints.Constraint.{Constraint}
use Rattle.dsr_ir.specs.declared.constraints.Literal.{Literal}
use Rattle.dsr_ir.specs.declared.constraints.Quant.{Quant}
use Rattle.dsr_ir.specs.declared.constraints.Quant.TheVariants as quants
use Rattle.dsr_ir.specs.declared.declarations.FieldRef.{FieldRef}
use Rattle.dsr_ir.specs.declared.declarations.Spec.{Spec}
use Rattle.dsr_ir.specs.declared.declarations.Structures.{Structures}
use Rattle.dsr_ir.specs.declared.rules.Rule.{Rule}
use Rattle.dsr_ir.specs.declared.updates.Symbol.{Symbol}
use Rattle.dsr_ir.specs.declared.updates.Symbol.TheVariants.{Set, Rel}
use Rattle.dsr_meaning.specs.Counting.{IsIn}
use Rattle.dsr_meaning.specs.Lists.{any_of}
use Rattle.dsr_meaning.specs.Models.{base_of}
use Rattle.dsr_leaf_laws.specs.Leaves.{may_change}
use Rattle.dsr_update_theory.specs.Changes.{paths_of}
use Rattle.dsr_update_theory.specs.Givers.{IsGiver}
use Rattle.dsr_update_theory.specs.Templates.{counted_symbol}

-- the rule reads one of the fields, or a field of a structure unrelated to that of one of them in the same pool
abbrev pub reads_any : Structures → List FieldRef → Rule → Bool
reads_any base fields rule =
    any_of (λ path. any_of (λ field. may_change base field path.field) fields) (paths_of rule)

-- The symbols that fields affect are the least set of those of which a rule reads such a field, or has a premise that is
-- affected, and of complements whose base is affected.
pub data IsAffected (spec : Spec) (fields : List FieldRef) : Symbol → Type 0 where
  read :
      (symbol : Symbol) (k : ℕ) (rule : Rule) → IsGiver spec symbol k rule
      → IsTrue (reads_any spec.base fields rule) → IsAffected spec fields symbol
  handed_on :
      (symbol : Symbol) (k : ℕ) (rule : Rule) (premise : ℕ) → IsGiver spec symbol k rule
      → rule.premise ≡ Some premise → IsAffected spec fields (Set premise) → IsAffected spec fields symbol
  swapped :
      (set base : ℕ) → base_of spec set ≡ Some base → IsAffected spec fields (Set base)
      → IsAffected spec fields (Set set)

-- a test that passes each such symbol: where a rule reads such a field, where the premise of a rule passes, and where the
-- base of a complement does
pub record PassesAffected (spec : Spec) (fields : List FieldRef) (such : Symbol → Bool) : Type 0 where
  pub read :
      (k : ℕ) (rule : Rule) → slice_get spec.rules k ≡ Some rule → IsTrue (reads_any spec.base fields rule)
      → IsTrue (such (symbol_of rule.inc))
  pub handed_on :
      (k : ℕ) (rule : Rule) (premise : ℕ) → slice_get spec.rules k ≡ Some rule → rule.premise ≡ Some premise
      → IsTrue (such (Set premise)) → IsTrue (such (symbol_of rule.inc))
  pub swapped :
      (set base : ℕ) → base_of spec set ≡ Some base → IsTrue (such (Set base)) → IsTrue (such (Set set))

-- ---- the symbols of a constraint

abbrev pub quant_symbols : Quant → List Symbol
quant_symbols quants.Once = []
quant_symbols (quants.Each set) = Set set ∷ []
quant_symbols (quants.Pairs rel) = Rel rel ∷ []

abbrev pub bound_symbols : Bound → List Symbol
bound_symbols (bounds.Num k) = []
bound_symbols (bounds.Size measure) = counted_symbol measure ∷ []

-- a comparison of values with a size has two
abbrev pub atom_symbols : Atom → List Symbol
atom_symbols (atoms.Member v set) = Set set ∷ []
atom_symbols (atoms.Pair v w rel) = Rel rel ∷ []
atom_symbols (atoms.Count measure op k) = counted_symbol measure ∷ []
atom_symbols (atoms.Value v rel op bound) = Rel rel ∷ bound_symbols bound

-- the symbol is the quantifier's, or one of a literal
pub data HasSymbol (c : Constraint) (symbol : Symbol) : Type 0 where
  quantified : IsIn symbol (quant_symbols c.quant) → HasSymbol c symbol
  of_literal :
      (conj : Conj) (literal : Literal) → IsIn conj c.conjs → IsIn literal conj.literals
      → IsIn symbol (atom_symbols literal.atom) → HasSymbol c symbol

-- a symbol of the constraint is affected
pub record IsAffectedConstraint (spec : Spec) (fields : List FieldRef) (c : Constraint) : Type 0 where
  pub symbol : Symbol
  pub has : HasSymbol c symbol
  pub affected : IsAffected spec fields symbol
