-- Sets of which constraints, or complements, say that they have no member in common have none.
use Rattle.std.proofs.Common.{◌≡◌, ◌⊎◌, ◌∙◌, ℕ, zero, suc, Bool, true, false, List, [], ◌∷◌, take, Option, None, Some, IfSome, All, inl, inr, refl, sym, ap, subst, slice_get, arith}
use Rattle.std.specs.Prelude.{MatchBool, if◌then◌else◌, ◌||◌, nat_eq}
use Rattle.std.specs.List.{flat_map}
use Rattle.std.specs.Option.{option_and_then, option_map_or}
use Rattle.std.proofs.lemmas.List.Elements.{All-cons, All-head, All-nil}
use Rattle.std.proofs.lemmas.Option.{same_Some, none-some}
use Rattle.dsr_repair_theory.specs.Applications.{FactsHold}
use Rattle.dsr_ir.specs.declared.constraints.Atom.{Atom}
use Rattle.dsr_ir.specs.declared.constraints.Atom.TheVariants as atoms
use Rattle.dsr_ir.specs.declared.constraints.Conj.{Conj}
use Rattle.dsr_ir.specs.declared.constraints.Constraint.{Constraint}
use Rattle.dsr_ir.specs.declared.constraints.Literal.{Literal}
use Rattle.dsr_ir.specs.declared.constraints.Measure.TheVariants.{Into}
use Rattle.dsr_ir.specs.declared.constraints.Quant.{Quant}
use Rattle.dsr_ir.specs.declared.constraints.Quant.TheVariants as quants
use Rattle.dsr_ir.specs.declared.constraints.Var.TheVariants.{First, Second}
use Rattle.dsr_ir.specs.declared.declarations.SetDecl.{SetDecl}
use Rattle.dsr_ir.specs.declared.declarations.Spec.{Spec}
use Rattle.dsr_ir.specs.declared.layouts.Layout.{Layout}
use Rattle.dsr_ir.specs.declared.rules.Op.TheVariants.{Le}
use Rattle.dsr_ir.specs.declared.tuples.Binding.TheVariants as bindings
use Rattle.dsr_ir.specs.declared.tuples.Element.{Element}
use Rattle.dsr_ir.specs.declared.tuples.Fact.TheVariants.{Member}
use Rattle.dsr_layout.proofs.Meanings.{found_holds}
use Rattle.dsr_meaning.specs.Consistency.{ConjHolds, IsBinding, IsViolated}
use Rattle.dsr_meaning.specs.Counting.{IsIn}
use Rattle.dsr_meaning.specs.Lists.{each_at}
use Rattle.dsr_meaning.specs.Models.{IsFact, IsInComplement, IsMemberBy, base_of}
use Rattle.dsr_meaning.specs.Truth.{AtomHolds, LiteralHolds}
use Rattle.dsr_meaning.specs.Typed.{IsPlainSetOf, IsTyped, IsTypedSet}
use Rattle.dsr_meaning.proofs.Options.{some_and}
use Rattle.dsr_repair_laws.proofs.PlainSets.{as_derived}
use Rattle.dsr_update_theory.specs.Facts.{ConstraintFact, Exclusive, Injective, Apart, are_complements, bounded_fact, complement_by, earlier, exclusive, exclusive_by, exclusive_fact, fact_by, fact_of, fact_of_conjs, fact_of_literals, from, giver_by}
use Rattle.dsr_meaning.proofs.Items.{at_each, in_each_at, in_either, in_flat, place_of}

-- ---- a constraint that gives such a fact

-- it says of each member of the one set that it is none of the other
pub record IsExclusion (c : Constraint) (a b : ℕ) : Type 0 where
  pub conj : Conj
  pub literal : Literal
  pub quant_is : c.quant ≡ quants.Each a
  pub conjs_are : c.conjs ≡ conj ∷ []
  pub literals_are : conj.literals ≡ literal ∷ []
  pub atom_is : literal.atom ≡ atoms.Member First b
  pub negated_is : literal.negated ≡ true

bounded_other : (rel counted k a b : ℕ) → bounded_fact rel counted k ≡ Some (Exclusive a b) → ⊥
bounded_other rel counted k a b e =
    elim (nat_eq rel counted) as (λ t. (if t then (if nat_eq k 1 then Some (Injective counted) else None) else (if nat_eq k 0 then Some (Apart rel counted) else None)) ≡ Some (Exclusive a b) → ⊥) [
      | true ↦ elim (nat_eq k 1) as (λ t. (if t then Some (Injective counted) else None) ≡ Some (Exclusive a b) → ⊥) [
        | true ↦ λ (q : Some (Injective counted) ≡ Some (Exclusive a b)). let no : Injective counted ≡ Exclusive a b = same_Some (Injective counted) (Exclusive a b) q in absurd cc
        | false ↦ λ q. none-some (Exclusive a b) q
      ]
      | false ↦ elim (nat_eq k 0) as (λ t. (if t then Some (Apart rel counted) else None) ≡ Some (Exclusive a b) → ⊥) [
        | true ↦ λ (q : Some (Apart rel counted) ≡ Some (Exclusive a b)). let no : Apart rel counted ≡ Exclusive a b = same_Some (Apart rel counted) (Exclusive a b) q in absurd cc
        | false ↦ λ q. none-some (Exclusive a b) q
      ]
    ] e

excluded_same : (spec : Spec) (p q a b : ℕ) → exclusive_fact spec p q ≡ Some (Exclusive a b) → (p ≡ a) × (q ≡ b)
excluded_same spec p q a b e =
    elim (nat_eq p q || are_complements spec p q) as (λ t. (if t then None else Some (Exclusive p q)) ≡ Some (Exclusive a b) → (p ≡ a) × (q ≡ b)) [
      | true ↦ λ r. absurd (none-some (Exclusive a b) r)
      | false ↦ λ (r : Some (Exclusive p q) ≡ Some (Exclusive a b)).
          let same : Exclusive p q ≡ Exclusive a b = same_Some (Exclusive p q) (Exclusive a b) r in
          let one : p ≡ a = cc in
          let two : q ≡ b = cc in
          (one, two)
    ] e

record ByFact (quant : Quant) (atom : Atom) (negated : Bool) (a b : ℕ) : Type 0 where
  quant_is : quant ≡ quants.Each a
  atom_is : atom ≡ atoms.Member First b
  negated_is : negated ≡ true

by_fact : (spec : Spec) (quant : Quant) (atom : Atom) (negated : Bool) (a b : ℕ) → fact_by spec quant atom negated ≡ Some (Exclusive a b) → ByFact quant atom negated a b
by_fact spec (quants.Each p) (atoms.Member First q) true a b e =
    let same = excluded_same spec p q a b e in
    record { quant_is = ap quants.Each same.0; atom_is = ap (atoms.Member First) same.1; negated_is = refl }
by_fact spec (quants.Pairs rel) (atoms.Count (Into counted Second) Le k) false a b e = absurd (bounded_other rel counted k a b e)
by_fact spec quant atom negated a b e = absurd (none-some (Exclusive a b) e)

by_literals : (spec : Spec) (quant : Quant) (literals : List Literal) (a b : ℕ) → fact_of_literals spec quant literals ≡ Some (Exclusive a b) → (l : Literal) × (literals ≡ l ∷ []) × ByFact quant l.atom l.negated a b
by_literals spec quant [] a b e = absurd (none-some (Exclusive a b) e)
by_literals spec quant (l ∷ []) a b e = (l, refl, by_fact spec quant l.atom l.negated a b e)
by_literals spec quant (l ∷ m ∷ rest) a b e = absurd (none-some (Exclusive a b) e)

by_conjs : (spec : Spec) (c : Constraint) (conjs : List Conj) (a b : ℕ) → c.conjs ≡ conjs → fact_of_conjs spec c.quant conjs ≡ Some (Exclusive a b) → IsExclusion c a b
by_conjs spec c [] a b is e = absurd (none-some (Exclusive a b) e)
by_conjs spec c (conj ∷ []) a b is e =
    let l = by_literals spec c.quant conj.literals a b e in
    record { conj = conj; literal = l.0; quant_is = l.2.quant_is; conjs_are = is; literals_are = l.1; atom_is = l.2.atom_is; negated_is = l.2.negated_is }
by_conjs spec c (conj ∷ other ∷ rest) a b is e = absurd (none-some (Exclusive a b) e)

pub exclusion : (spec : Spec) (c : Constraint) (a b : ℕ) → fact_of spec c ≡ Some (Exclusive a b) → IsExclusion c a b
exclusion spec c a b e = by_conjs spec c c.conjs a b refl e

-- the pair is one of a fact, one way or the other
one_of : (o : Option ConstraintFact) (a b : ℕ) → IsIn (a, b) (exclusive_by o) → (o ≡ Some (Exclusive a b)) ⊎ (o ≡ Some (Exclusive b a))
one_of None a b i = absurd i
one_of (Some (Injective rel)) a b i = absurd i
one_of (Some (Apart p q)) a b i = absurd i
one_of (Some (Exclusive p q)) a b (inl e) = inl (λ k. Some (Exclusive ((sym e k).0) ((sym e k).1)))
one_of (Some (Exclusive p q)) a b (inr (inl e)) = inr (λ k. Some (Exclusive ((sym e k).1) ((sym e k).0)))
one_of (Some (Exclusive p q)) a b (inr (inr none)) = absurd none

pub taken_at : {A : Type 0} (n : ℕ) (xs : List A) (k : ℕ) (x : A) → slice_get (take n xs) k ≡ Some x → slice_get xs k ≡ Some x
taken_at zero [] k x e = absurd cc
taken_at zero (y ∷ ys) k x e = absurd cc
taken_at (suc n) [] k x e = absurd cc
taken_at (suc n) (y ∷ ys) zero x e = e
taken_at (suc n) (y ∷ ys) (suc k) x e = taken_at n ys k x e

-- why two sets have no member in common: one is the other's complement, or a constraint that is used says so
pub data IsSaid (spec : Spec) (number a b : ℕ) : Type 0 where
  of_base : (d : SetDecl) → slice_get spec.base.sets a ≡ Some d → d.except ≡ Some b → IsSaid spec number a b
  of_complement : (d : SetDecl) → slice_get spec.base.sets b ≡ Some d → d.except ≡ Some a → IsSaid spec number a b
  of_first : (k : ℕ) (c : Constraint) → slice_get spec.constraints k ≡ Some c → IsIn k (from spec number) → IsExclusion c a b → IsSaid spec number a b
  of_second : (k : ℕ) (c : Constraint) → slice_get spec.constraints k ≡ Some c → IsIn k (from spec number) → IsExclusion c b a → IsSaid spec number a b

module _ (spec : Spec) (number : ℕ) where
  -- a constraint that gives a fact is used where it is an earlier one
  pub used : (c : Constraint) (k : ℕ) → slice_get (earlier spec number) k ≡ Some c → (fact : ConstraintFact) → fact_of spec c ≡ Some fact → IsIn k (from spec number)
  used c k at fact is = at_each (λ n x. giver_by n (fact_of spec x)) 0 (earlier spec number) k k c at k (omega arith) (subst (λ o. IsIn k (giver_by k o)) (sym is) (inl refl))

  by_complement : (set : ℕ) (d : SetDecl) → slice_get spec.base.sets set ≡ Some d → (a b : ℕ) (o : Option ℕ) → d.except ≡ o → IsIn {A = ℕ × ℕ} (a, b) (option_map_or (λ base. (set, base) ∷ (base, set) ∷ []) o []) → IsSaid spec number a b
  by_complement set d at a b None is i = absurd i
  by_complement set d at a b (Some base) is (inl q) =
      IsSaid.of_base d (subst (λ s. slice_get spec.base.sets s ≡ Some d) (sym (ap (λ (p : ℕ × ℕ). p.0) q)) at) (is ∙ ap Some (sym (ap (λ (p : ℕ × ℕ). p.1) q)))
  by_complement set d at a b (Some base) is (inr (inl q)) =
      IsSaid.of_complement d (subst (λ s. slice_get spec.base.sets s ≡ Some d) (sym (ap (λ (p : ℕ × ℕ). p.1) q)) at) (is ∙ ap Some (sym (ap (λ (p : ℕ × ℕ). p.0) q)))
  by_complement set d at a b (Some base) is (inr (inr none)) = absurd none

  pub said : (a b : ℕ) → IsIn (a, b) (exclusive spec number) → IsSaid spec number a b
  said a b i = elim (in_either (a, b) (each_at complement_by 0 spec.base.sets) (flat_map (λ c. exclusive_by (fact_of spec c)) (earlier spec number)) i) as (λ _. IsSaid spec number a b) [
    | inl complements ↦
        let x = in_each_at complement_by 0 spec.base.sets (a, b) complements in
        let same : x.at ≡ x.number = omega (arith, x.number_is) in
        by_complement x.number x.item (subst (λ n. slice_get spec.base.sets n ≡ Some x.item) same x.item_is) a b x.item.except refl x.is_in
    | inr constraints ↦
        let x = in_flat (λ c. exclusive_by (fact_of spec c)) (earlier spec number) (a, b) constraints in
        let at = place_of (earlier spec number) x.from x.among in
        let declared = taken_at number spec.constraints at.0 x.from at.1 in
        elim (one_of (fact_of spec x.from) a b x.is_in) as (λ _. IsSaid spec number a b) [
          | inl is ↦ IsSaid.of_first at.0 x.from declared (used x.from at.0 at.1 (Exclusive a b) is) (exclusion spec x.from a b is)
          | inr is ↦ IsSaid.of_second at.0 x.from declared (used x.from at.0 at.1 (Exclusive b a) is) (exclusion spec x.from b a is)
        ]
  ]

module _ (spec : Spec) (typed : IsTyped spec) (layout : Layout) (bytes : List ℕ) where
  abbrev HasFact : ℕ → Element → Type 0
  HasFact set e = IsFact spec layout bytes (Member set e)

  -- a member of both violates the constraint
  violates : (c : Constraint) (a b k : ℕ) (e : Element) → IsExclusion c a b → slice_get spec.constraints k ≡ Some c → HasFact a e → HasFact b e → IsViolated (IsFact spec layout bytes) spec (record { constraint = k; binding = bindings.Each e })
  violates c a b k e x declared one two =
      let is_fact = IsFact spec layout bytes in
      let b_holds : AtomHolds is_fact (bindings.Each e) x.literal.atom = subst (AtomHolds is_fact (bindings.Each e)) (sym x.atom_is) two in
      let fails : LiteralHolds is_fact (bindings.Each e) x.literal → ⊥ = λ h.
      subst (λ t. MatchBool t (AtomHolds is_fact (bindings.Each e) x.literal.atom → ⊥) (AtomHolds is_fact (bindings.Each e) x.literal.atom)) x.negated_is h b_holds in
      record {
        constraint = c;
        declared = declared;
        is_binding = subst (λ q. IsBinding is_fact q (bindings.Each e)) (sym x.quant_is) one;
        no_conjunction = subst (All (λ conj. ConjHolds is_fact (bindings.Each e) conj → ⊥)) (sym x.conjs_are)
            (All-cons (λ conj. ConjHolds is_fact (bindings.Each e) conj → ⊥) x.conj []
            (λ h. fails (All-head (LiteralHolds is_fact (bindings.Each e)) x.literal [] (subst (All (LiteralHolds is_fact (bindings.Each e))) x.literals_are h)))
            (All-nil (λ conj. ConjHolds is_fact (bindings.Each e) conj → ⊥)));
      }

  -- a member of a complement is none of its base
  apart_from_base : (set base : ℕ) (d : SetDecl) → slice_get spec.base.sets set ≡ Some d → d.except ≡ Some base → (e : Element) → HasFact set e → HasFact base e → ⊥
  apart_from_base set base d at is e one two =
      let base_is : base_of spec set ≡ Some base = ap (option_and_then (λ (s : SetDecl). s.except)) at ∙ is in
      let out : IsInComplement spec layout bytes set base e = subst (λ o. IsMemberBy spec layout bytes set o e) base_is one in
      let plain = subst (λ o. IfSome o (IsPlainSetOf spec.base d.pool)) is (found_holds (IsTypedSet spec.base) spec.base.sets set d typed.base.sets at).except in
      let own = some_and (slice_get spec.base.sets base) (λ s. (s.pool ≡ d.pool) × (s.except ≡ None)) plain in
      out.outside (as_derived spec layout bytes base e (ap (option_and_then (λ (s : SetDecl). s.except)) own.1.0 ∙ own.1.1.1) two)

  module _ (number : ℕ) (hold : FactsHold spec layout bytes number) where
    -- no record is a member of both of two sets of which that is said
    pub exclusive_holds : (a b : ℕ) → IsIn (a, b) (exclusive spec number) → (e : Element) → HasFact a e → HasFact b e → ⊥
    exclusive_holds a b i e one two = by_said (said spec number a b i) where
      by_said : IsSaid spec number a b → ⊥
      by_said (IsSaid.of_base d at is) = apart_from_base a b d at is e one two
      by_said (IsSaid.of_complement d at is) = apart_from_base b a d at is e two one
      by_said (IsSaid.of_first k c declared given x) = hold k (bindings.Each e) given (violates c a b k e x declared one two)
      by_said (IsSaid.of_second k c declared given x) = hold k (bindings.Each e) given (violates c b a k e x declared two one)
