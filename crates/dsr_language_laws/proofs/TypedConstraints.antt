-- Constraints without faults are typed.
use Rattle.std.proofs.Common.{◌≡◌, ◌≤◌, ℕ, Bool, true, false, not, nat_eq, nat_lt, List, [], map, length, Option, None, Some, cond, All, refl, sym, ap, ◌∙◌, subst, true≢false, arith}
use Rattle.std.proofs.lemmas.Bool.{not-false, or_parts, both_ways, ltb-false, eqb-true, eq-eqb}
use Rattle.std.proofs.lemmas.List.{length-map}
use Rattle.std.proofs.lemmas.List.Elements.{All-map}
use Rattle.dsr_ir.specs.Formulas.{FormulaShape}
use Rattle.dsr_ir.specs.declared.constraints.Literal.{Literal}
use Rattle.dsr_ir.specs.declared.declarations.Structures.{Structures}
use Rattle.dsr_tree.specs.Trees.{ConstraintTree}
use Rattle.dsr_tree.specs.declared.faults.Condition.TheVariants as conditions
use Rattle.dsr_tree.specs.declared.tree.Rule.{Rule}
use Rattle.dsr_meaning.specs.Counting.{IsIn}
use Rattle.dsr_meaning.specs.Typed.{AreDifferent, AreTyped, IsTypedAtom, IsTypedConj, IsTypedConstraint, IsTypedLiteral, HasAtom, constraint_limit}
use Rattle.dsr_meaning.proofs.Empty.{both_empty, each_has, few}
use Rattle.dsr_language_theory.specs.Names.{is_at}
use Rattle.dsr_language_theory.proofs.Absent.{when_absent}
use Rattle.dsr_language_theory.specs.Known.{known_in}
use Rattle.dsr_language_theory.specs.Constraints.{quantifier_faults, formula_faults, negations, constraint_number, own_faults, refusal_faults, form_faults, constraint_faults, constraints_faults}
use Rattle.dsr_language_theory.specs.NormalForms.{distributed, conj_of, atoms_of, negates, longest, is_too_large, has_many_atoms, negated_value, too_many_conjunctions, too_many_atoms, refusal_of}
use Rattle.dsr_language_theory.specs.RuleFaults.{rules_faults}
use Rattle.dsr_language_theory.specs.TypedConstraints.{Scope, typed_formula, without_complement, without_complements, typed_quant, typed_constraint, typed_constraints}
use Rattle.dsr_language_laws.specs.Meant.{meant}
use Rattle.dsr_language_laws.proofs.BoundVariables.{bound, binding_in}
use Rattle.dsr_language_laws.proofs.FormulaAtoms.{sound_formula, not_negated}
use Rattle.dsr_language_laws.proofs.FormulaLiterals.{each_from, below_longest}
use Rattle.dsr_language_laws.proofs.Items.{mapped_is, each_is, different_names}
use Rattle.dsr_language_laws.proofs.DifferentAtoms.{few_images}
use Rattle.dsr_language_laws.proofs.TypedAtoms.{base_atom, rewritten, atom_is_typed, literal_is_typed}
use Rattle.dsr_meaning.proofs.Items.{all_of, in_map}

-- ---- normal forms

-- a formula that has one
record HasForm (f : FormulaShape) : Type 0 where
  pub negated : negates false f ≡ false
  pub large : is_too_large (distributed false false f) ≡ false
  pub many : has_many_atoms (atoms_of f) ≡ false

many_fails : (c : ConstraintTree) (many : Bool) → refusal_faults c (cond many (Some too_many_atoms) None) ≡ [] → many ≡ false
many_fails c true e = absurd (true≢false (when_absent true conditions.TooManyAtoms c.name.place e))
many_fails c false e = refl

large_fails : (c : ConstraintTree) (large many : Bool) → refusal_faults c (cond large (Some too_many_conjunctions) (cond many (Some too_many_atoms) None)) ≡ [] → (large ≡ false) × (many ≡ false)
large_fails c true many e = absurd (true≢false (when_absent true conditions.TooManyConjunctions c.name.place e))
large_fails c false many e = (refl, many_fails c many e)

-- where no fault tells why there is none, no reason holds
no_refusal : (c : ConstraintTree) (negated large many : Bool) → (negations c.formula ≡ [] → negated ≡ false) → refusal_faults c (cond negated (Some negated_value) (cond large (Some too_many_conjunctions) (cond many (Some too_many_atoms) None))) ≡ [] → (negated ≡ false) × ((large ≡ false) × (many ≡ false))
no_refusal c true large many h e = absurd (true≢false (h e))
no_refusal c false large many h e = (refl, large_fails c large many e)

has_form : (scope : Scope) (c : ConstraintTree) → refusal_faults c (refusal_of (typed_formula scope c.formula)) ≡ [] → HasForm (typed_formula scope c.formula)
has_form scope c e =
    let f = typed_formula scope c.formula in
    let none = no_refusal c (negates false f) (is_too_large (distributed false false f)) (has_many_atoms (atoms_of f)) (not_negated scope c.formula) e in
    record { negated = none.0; large = none.1.0; many = none.1.1 }

-- ---- a constraint without fault

record SoundConstraint (base : Structures) (rs : List Rule) (number : List ℕ → Option ℕ) (i : ℕ) (c : ConstraintTree) : Type 0 where
  pub named : number c.name.name ≡ Some i
  pub quantifier : quantifier_faults (known_in base) c.quantifier ≡ []
  pub formula : formula_faults (binding_in base c.quantifier) rs c.formula ≡ []
  pub form : HasForm (typed_formula (binding_in base c.quantifier) c.formula)

-- a number that is found, and that is this one
at_is : (n : ℕ) (o : Option ℕ) → not (is_at n o) ≡ false → o ≡ Some n
at_is n None e = absurd (true≢false e)
at_is n (Some m) e = ap Some (eqb-true m n (not-false (nat_eq m n) e))

module _ (base : Structures) (rs : List Rule) (number : List ℕ → Option ℕ) where
  sound_constraint : (i : ℕ) (c : ConstraintTree) → constraint_faults (known_in base) rs number i c ≡ [] → SoundConstraint base rs number i c
  sound_constraint i c e =
      let own = own_faults (known_in base) rs number i c in
      let limit = both_empty _ _ e in
      let both = both_empty own (form_faults (known_in base) own c) limit.1 in
      let name = both_empty _ _ both.0 in
      let rest = both_empty (quantifier_faults (known_in base) c.quantifier) _ name.1 in
      record {
        named = at_is i (number c.name.name) (when_absent (not (is_at i (number c.name.name))) conditions.NameTwice c.name.place name.0);
        quantifier = rest.0;
        formula = rest.1;
        form = has_form (binding_in base c.quantifier) c (sym (ap (λ faults. form_faults (known_in base) faults c) both.0) ∙ both.1);
      }

  -- one that is one too many has a fault
  constraint_limit_holds : (c : ConstraintTree) → constraint_faults (known_in base) rs number (constraint_limit base.version) c ≡ [] → ⊥
  constraint_limit_holds c e =
      let limit = constraint_limit base.version in
      both_ways (nat_eq limit limit) (when_absent (nat_eq limit limit) conditions.Limit c.name.place (both_empty _ _ e).0) (eq-eqb limit limit refl)

module _ (base : Structures) (typed : AreTyped base) (rs : List Rule) (constraints : List ConstraintTree) (empty : rules_faults (known_in base) rs ≡ []) where
  constraint_is_typed : (number : List ℕ → Option ℕ) (i : ℕ) (c : ConstraintTree) → constraint_faults (known_in base) rs number i c ≡ [] → IsTypedConstraint (meant base rs constraints) (typed_constraint (known_in base) c)
  constraint_is_typed number i c e =
      let scope = binding_in base c.quantifier in
      let f = typed_formula scope c.formula in
      let conjs = distributed false false f in
      let sound = sound_constraint base rs number i c e in
      let b = bound base c.quantifier sound.quantifier in
      let few_of = or_parts (nat_lt 16 (length conjs)) (nat_lt 8 (longest conjs)) sound.form.large in
      let few_conjs = ltb-false 16 (length conjs) few_of.0 in
      let few_literals = ltb-false 8 (longest conjs) few_of.1 in
      let from = each_from false false false f (λ h. h) sound.form.negated in
      let literal : (d : List Literal) → IsIn d conjs → (l : Literal) → IsIn l d → IsTypedLiteral (meant base rs constraints) (typed_quant scope) (without_complement base l) = λ d is_conj l is_literal.
      let l_from = from d l is_conj is_literal in
      let a = sound_formula scope rs c.formula sound.formula l.atom l_from.stands in
      literal_is_typed base typed rs constraints empty c.quantifier b l (atoms_of f) l_from (subst (λ x. IsTypedAtom (meant base rs constraints) (typed_quant scope) (base_atom base x)) (sym a.made) (atom_is_typed base typed rs constraints empty c.quantifier b a.tree a.no_fault)) in
      let conj : (d : List Literal) → IsIn d conjs → IsTypedConj (meant base rs constraints) (typed_quant scope) (without_complements base (conj_of d)) = λ d is_conj.
      let same = length-map d (without_complement base) in
      let below = below_longest conjs d is_conj in
      record {
        few_literals = omega (arith, same, below, few_literals);
        literals = All-map (IsTypedLiteral (meant base rs constraints) (typed_quant scope)) (without_complement base) d (all_of (λ l. IsTypedLiteral (meant base rs constraints) (typed_quant scope) (without_complement base l)) d (literal d is_conj));
      } in
      let outer = length-map (map conj_of conjs) (without_complements base) in
      let inner = length-map conjs conj_of in
      record {
        quant = b.typed;
        few_conjs = omega (arith, outer, inner, few_conjs);
        conjs = All-map (IsTypedConj (meant base rs constraints) (typed_quant scope)) (without_complements base) (map conj_of conjs) (All-map (λ x. IsTypedConj (meant base rs constraints) (typed_quant scope) (without_complements base x)) conj_of conjs (all_of (λ d. IsTypedConj (meant base rs constraints) (typed_quant scope) (without_complements base (conj_of d))) conjs conj));
        few_atoms = few_images (atoms_of f) (base_atom base) sound.form.many (HasAtom (typed_constraint (known_in base) c)) (λ y has.
            let x = in_map (without_complements base) (map conj_of conjs) has.0 has.2 in
            let d = in_map conj_of conjs x.from x.among in
            let l = in_map (without_complement base) d.from has.1 (subst (λ z. IsIn has.1 z.literals) (x.is ∙ ap (without_complements base) d.is) has.3) in
            (l.from.atom, (from d.from l.from d.among l.among).stands, sym has.4 ∙ (ap (λ z. z.atom) l.is ∙ rewritten base l.from)));
      }

  pub constraints_are_typed : constraints_faults (known_in base) rs constraints ≡ [] → All (IsTypedConstraint (meant base rs constraints)) (meant base rs constraints).constraints
  constraints_are_typed e =
      let number = constraint_number constraints in
      All-map (IsTypedConstraint (meant base rs constraints)) (typed_constraint (known_in base)) constraints (each_has (constraint_faults (known_in base) rs number) (λ c. IsTypedConstraint (meant base rs constraints) (typed_constraint (known_in base) c)) (constraint_is_typed number) 0 constraints e)

pub few_constraints : (base : Structures) (rs : List Rule) (constraints : List ConstraintTree) → constraints_faults (known_in base) rs constraints ≡ [] → length (typed_constraints (known_in base) constraints) ≤ constraint_limit base.version
few_constraints base rs constraints e =
    let number = constraint_number constraints in
    let limit = constraint_limit base.version in
    subst (λ n. n ≤ limit) (sym (length-map constraints (typed_constraint (known_in base)))) (few (constraint_faults (known_in base) rs number) limit 0 limit (omega arith) (constraint_limit_holds base rs number) constraints e)

pub names_differ : (base : Structures) (rs : List Rule) (constraints : List ConstraintTree) → constraints_faults (known_in base) rs constraints ≡ [] → AreDifferent (map (λ c. c.name) (typed_constraints (known_in base) constraints))
names_differ base rs constraints e =
    let number = constraint_number constraints in
    different_names number _ (mapped_is (λ c. c.name) (λ i q. number q ≡ Some i) (typed_constraints (known_in base) constraints) (mapped_is (typed_constraint (known_in base)) (λ i c. number c.name ≡ Some i) constraints (λ i c at. (sound_constraint base rs number i c (each_is (constraint_faults (known_in base) rs number) 0 constraints e i i c (omega arith) at)).named)))
