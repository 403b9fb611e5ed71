-- A formula is negated above a size or a value exactly where a place of such a `not` is told.
use Rattle.std.proofs.Common.{◌≡◌, Bool, true, false, ◌||◌, not, List, [], ◌∷◌, ◌++◌, Option, None, Some, IsSome, Result, Ok, Err, OnOk, if◌then◌else◌, refl, sym, ap, ◌∙◌}
use Rattle.dsr_normal.specs.declared.faults.NormalFault.{NormalFault}
use Rattle.dsr_normal.specs.declared.faults.NormalFault.TheVariants as normal_faults
use Rattle.dsr_normal.specs.Telling.{refusal_told, IsTold}
use Rattle.dsr_ir.specs.Formulas.{FormulaShape}
use Rattle.dsr_tree.specs.declared.faults.Condition.TheVariants as conditions
use Rattle.dsr_tree.specs.declared.faults.Fault.{Fault}
use Rattle.dsr_tree.specs.declared.tree.Atom.{Atom}
use Rattle.dsr_tree.specs.declared.tree.Atom.TheVariants as atoms
use Rattle.dsr_tree.specs.Trees.{ConstraintTree, FormulaTree, formula_tree, JoinTrees, no_joins, more_joins, JoinTree, join_tree, UnitTrees, no_units, more_units, UnitTree, not_tree, given_tree, parenthesized_tree, atom_tree}
use Rattle.dsr_language_theory.specs.Faults.{when}
use Rattle.dsr_language_theory.specs.Known.{is_nil}
use Rattle.dsr_language_theory.specs.Constraints.{is_value, has_value, joins_have_value, join_has_value, units_have_value, unit_has_value, negations, joins_negations, join_negations, units_negations, unit_negations, refusal_faults}
use Rattle.dsr_language_theory.specs.NormalForms.{Refusal, negated_value, too_many_conjunctions, too_many_atoms, is_membership, negates, row_negates, refusal_of}
use Rattle.dsr_language_theory.specs.TypedConstraints.{Scope, typed_formula, typed_joins, typed_join, typed_units, typed_unit, typed_atom}

-- a list is told where one of its parts is
abbrev tells : List Fault → Bool
tells fs = not (is_nil fs)

tells-append : (xs ys : List Fault) → tells (xs ++ ys) ≡ (tells xs || tells ys)
tells-append [] ys = refl
tells-append (x ∷ xs) ys = refl

tells-when : (b : Bool) (place : _) → tells (when b conditions.NegatedValue place) ≡ b
tells-when true place = refl
tells-when false place = refl

module _ (scope : Scope) where
  value_is : (atom : Atom) → not (is_membership (typed_atom scope atom)) ≡ is_value atom
  value_is (atoms.Count size bound number) = refl
  value_is (atoms.Pair place first second relation) = refl
  value_is (atoms.Member var set) = refl
  value_is (atoms.Value var relation compare measure) = refl

  -- under `not` it is negated where a size or a value stands in it
  mutual
    below_formula : (f : FormulaTree) → negates true (typed_formula scope f) ≡ has_value f
    below_formula (formula_tree first rest) = λ i. below_join first i || below_joins rest i

    below_joins : (js : JoinTrees) → row_negates true (typed_joins scope js) ≡ joins_have_value js
    below_joins no_joins = refl
    below_joins (more_joins join rest) = λ i. below_join join i || below_joins rest i

    below_join : (j : JoinTree) → negates true (typed_join scope j) ≡ join_has_value j
    below_join (join_tree first rest) = λ i. below_unit first i || below_units rest i

    below_units : (us : UnitTrees) → row_negates true (typed_units scope us) ≡ units_have_value us
    below_units no_units = refl
    below_units (more_units unit rest) = λ i. below_unit unit i || below_units rest i

    below_unit : (u : UnitTree) → negates true (typed_unit scope u) ≡ unit_has_value u
    below_unit (not_tree place unit) = below_unit unit
    below_unit (given_tree place unit) = below_unit unit
    below_unit (parenthesized_tree place formula) = below_formula formula
    below_unit (atom_tree atom) = value_is atom

  -- otherwise where a place is told
  mutual
    told_formula : (f : FormulaTree) → negates false (typed_formula scope f) ≡ tells (negations f)
    told_formula (formula_tree first rest) = (λ i. told_join first i || told_joins rest i) ∙ sym (tells-append (join_negations first) (joins_negations rest))

    told_joins : (js : JoinTrees) → row_negates false (typed_joins scope js) ≡ tells (joins_negations js)
    told_joins no_joins = refl
    told_joins (more_joins join rest) = (λ i. told_join join i || told_joins rest i) ∙ sym (tells-append (join_negations join) (joins_negations rest))

    told_join : (j : JoinTree) → negates false (typed_join scope j) ≡ tells (join_negations j)
    told_join (join_tree first rest) = (λ i. told_unit first i || told_units rest i) ∙ sym (tells-append (unit_negations first) (units_negations rest))

    told_units : (us : UnitTrees) → row_negates false (typed_units scope us) ≡ tells (units_negations us)
    told_units no_units = refl
    told_units (more_units unit rest) = (λ i. told_unit unit i || told_units rest i) ∙ sym (tells-append (unit_negations unit) (units_negations rest))

    told_unit : (u : UnitTree) → negates false (typed_unit scope u) ≡ tells (unit_negations u)
    told_unit (not_tree place unit) = below_unit unit ∙ sym (tells-when (unit_has_value unit) place)
    told_unit (given_tree place unit) = told_unit unit
    told_unit (parenthesized_tree place formula) = told_formula formula
    told_unit (atom_tree atom) = refl

-- a formula that is refused for a negated value is negated so
negated_so : (n l m : Bool) → (if n then Some negated_value else if l then Some too_many_conjunctions else if m then Some too_many_atoms else None) ≡ Some negated_value → n ≡ true
negated_so true l m e = refl
negated_so false true m e = absurd cc
negated_so false false true e = absurd cc
negated_so false false false e = absurd cc

untold : (fs : List Fault) → tells fs ≡ true → fs ≡ [] → ⊥
untold [] e p = absurd cc
untold (f ∷ fs) e p = absurd cc

-- a refusal is told by some fault
pub refusal_is_told : (scope : Scope) (c : ConstraintTree) (refusal : Refusal) → refusal_of (typed_formula scope c.formula) ≡ Some refusal → refusal_faults c (Some refusal) ≡ [] → ⊥
refusal_is_told scope c negated_value e none = untold (negations c.formula) (sym (told_formula scope c.formula) ∙ negated_so _ _ _ e) none
refusal_is_told scope c too_many_conjunctions e none = absurd cc
refusal_is_told scope c too_many_atoms e none = absurd cc

-- a fault that tells a refusal tells the formula's own
pub refusal_same : (formula : FormulaShape) (fault : NormalFault) → IsTold formula fault → IsSome (refusal_told fault) → refusal_of formula ≡ refusal_told fault
refusal_same formula normal_faults.NegatedValue told some = told
refusal_same formula normal_faults.TooManyConjunctions told some = told
refusal_same formula normal_faults.TooManyAtoms told some = told
refusal_same formula normal_faults.NoMemory told some = absurd cc

-- where a fault tells a refusal, a fault is found
pub told_found : (scope : Scope) (c : ConstraintTree) (refusal : Option Refusal) → refusal_of (typed_formula scope c.formula) ≡ refusal → IsSome refusal → refusal_faults c (refusal_of (typed_formula scope c.formula)) ≡ [] → ⊥
told_found scope c None e some none = absurd cc
told_found scope c (Some refusal) e some none = refusal_is_told scope c refusal e (sym (ap (refusal_faults c) e) ∙ none)

-- what follows from two clauses on a result that is Ok
pub both_ok : {T E : Type 0} (r : Result T E) {A B C : Type 0} → (A → B → C) → OnOk r A → OnOk r B → OnOk r C
both_ok (Ok x) f a b = f a b
both_ok (Err e) f a b = tt
