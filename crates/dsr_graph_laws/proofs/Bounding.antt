-- What constraints that bound the sources of records say: at most one under a relation, or none.
use Rattle.std.proofs.Common.{◌≡◌, ◌≤◌, ◌∙◌, ℕ, Bool, true, false, List, [], ◌∷◌, length, Option, None, Some, All, inl, inr, refl, sym, subst, slice_get, arith}
use Rattle.std.specs.Prelude.{MatchBool, if◌then◌else◌, ◌||◌, nat_eq}
use Rattle.std.proofs.lemmas.Bool.{eqb-true}
use Rattle.std.proofs.lemmas.List.Elements.{All-cons, All-head, All-nil}
use Rattle.std.proofs.lemmas.Option.{same_Some, none-some}
use Rattle.dsr_repair_theory.specs.Applications.{FactsHold}
use Rattle.dsr_ir.specs.declared.constraints.Atom.{Atom}
use Rattle.dsr_ir.specs.declared.constraints.Atom.TheVariants as atoms
use Rattle.dsr_ir.specs.declared.constraints.Conj.{Conj}
use Rattle.dsr_ir.specs.declared.constraints.Constraint.{Constraint}
use Rattle.dsr_ir.specs.declared.constraints.Literal.{Literal}
use Rattle.dsr_ir.specs.declared.constraints.Measure.TheVariants.{Into}
use Rattle.dsr_ir.specs.declared.constraints.Quant.{Quant}
use Rattle.dsr_ir.specs.declared.constraints.Quant.TheVariants as quants
use Rattle.dsr_ir.specs.declared.constraints.Var.TheVariants.{First, Second}
use Rattle.dsr_ir.specs.declared.declarations.Spec.{Spec}
use Rattle.dsr_ir.specs.declared.layouts.Layout.{Layout}
use Rattle.dsr_ir.specs.declared.rules.Op.TheVariants.{Le}
use Rattle.dsr_ir.specs.declared.tuples.Binding.TheVariants as bindings
use Rattle.dsr_ir.specs.declared.tuples.Element.{Element}
use Rattle.dsr_ir.specs.declared.tuples.Fact.TheVariants.{Pair}
use Rattle.dsr_ir.specs.declared.tuples.Target.TheVariants.{Elem}
use Rattle.dsr_template_laws.proofs.ExclusiveSets.{taken_at, used}
use Rattle.dsr_meaning.specs.Consistency.{ConjHolds, IsBinding}
use Rattle.dsr_meaning.specs.Counting.{AreMany, IsIn}
use Rattle.dsr_meaning.specs.Models.{IsFact}
use Rattle.dsr_meaning.specs.Truth.{AtomHolds, LiteralHolds}
use Rattle.dsr_update_theory.specs.Facts.{ConstraintFact, Exclusive, Injective, Apart, apart, apart_by, are_complements, bounded_fact, earlier, exclusive_fact, fact_by, fact_of, fact_of_conjs, fact_of_literals, from, injective, injective_by}
use Rattle.dsr_meaning.proofs.Items.{in_flat, place_of}

-- it says that what has a source under the one relation has at most so many under the other
pub record IsBounding (c : Constraint) (rel counted k : ℕ) : Type 0 where
  pub conj : Conj
  pub literal : Literal
  pub quant_is : c.quant ≡ quants.Pairs rel
  pub conjs_are : c.conjs ≡ conj ∷ []
  pub literals_are : conj.literals ≡ literal ∷ []
  pub atom_is : literal.atom ≡ atoms.Count (Into counted Second) Le k
  pub negated_is : literal.negated ≡ false

abbrev IsBound : ConstraintFact → Type 0
IsBound (Exclusive a b) = ⊥
IsBound fact = Unit {0}

excluded_not : (spec : Spec) (a b : ℕ) (fact : ConstraintFact) → IsBound fact → exclusive_fact spec a b ≡ Some fact → ⊥
excluded_not spec a b fact bound e =
    elim (nat_eq a b || are_complements spec a b) as (λ t. (if t then None else Some (Exclusive a b)) ≡ Some fact → ⊥) [
      | true ↦ λ r. none-some fact r
      | false ↦ λ (r : Some (Exclusive a b) ≡ Some fact). subst IsBound (sym (same_Some (Exclusive a b) fact r)) bound
    ] e

record ByBound (quant : Quant) (atom : Atom) (negated : Bool) (fact : ConstraintFact) : Type 0 where
  rel : ℕ
  counted : ℕ
  k : ℕ
  quant_is : quant ≡ quants.Pairs rel
  atom_is : atom ≡ atoms.Count (Into counted Second) Le k
  negated_is : negated ≡ false
  fact_is : bounded_fact rel counted k ≡ Some fact

by_bound : (spec : Spec) (quant : Quant) (atom : Atom) (negated : Bool) (fact : ConstraintFact) → IsBound fact → fact_by spec quant atom negated ≡ Some fact → ByBound quant atom negated fact
by_bound spec (quants.Each p) (atoms.Member First q) true fact bound e = absurd (excluded_not spec p q fact bound e)
by_bound spec (quants.Pairs rel) (atoms.Count (Into counted Second) Le k) false fact bound e =
    record { rel = rel; counted = counted; k = k; quant_is = refl; atom_is = refl; negated_is = refl; fact_is = e }
by_bound spec quant atom negated fact bound e = absurd (none-some fact e)

by_literals : (spec : Spec) (quant : Quant) (literals : List Literal) (fact : ConstraintFact) → IsBound fact → fact_of_literals spec quant literals ≡ Some fact → (l : Literal) × (literals ≡ l ∷ []) × ByBound quant l.atom l.negated fact
by_literals spec quant [] fact bound e = absurd (none-some fact e)
by_literals spec quant (l ∷ []) fact bound e = (l, refl, by_bound spec quant l.atom l.negated fact bound e)
by_literals spec quant (l ∷ m ∷ rest) fact bound e = absurd (none-some fact e)

record BoundBy (c : Constraint) (fact : ConstraintFact) : Type 0 where
  rel : ℕ
  counted : ℕ
  k : ℕ
  bounding : IsBounding c rel counted k
  fact_is : bounded_fact rel counted k ≡ Some fact

by_conjs : (spec : Spec) (c : Constraint) (conjs : List Conj) (fact : ConstraintFact) → IsBound fact → c.conjs ≡ conjs → fact_of_conjs spec c.quant conjs ≡ Some fact → BoundBy c fact
by_conjs spec c [] fact bound is e = absurd (none-some fact e)
by_conjs spec c (conj ∷ []) fact bound is e =
    let l = by_literals spec c.quant conj.literals fact bound e in
    record {
      rel = l.2.rel;
      counted = l.2.counted;
      k = l.2.k;
      bounding = record { conj = conj; literal = l.0; quant_is = l.2.quant_is; conjs_are = is; literals_are = l.1; atom_is = l.2.atom_is; negated_is = l.2.negated_is };
      fact_is = l.2.fact_is;
    }
by_conjs spec c (conj ∷ other ∷ rest) fact bound is e = absurd (none-some fact e)

-- what the fact says of the numbers
abbrev Says : ConstraintFact → ℕ → ℕ → ℕ → Type 0
Says (Injective r) rel counted k = (rel ≡ r) × (counted ≡ r) × (k ≡ 1)
Says (Apart p q) rel counted k = (rel ≡ p) × (counted ≡ q) × (k ≡ 0)
Says (Exclusive a b) rel counted k = ⊥

bound_says : (rel counted k : ℕ) (fact : ConstraintFact) → bounded_fact rel counted k ≡ Some fact → Says fact rel counted k
bound_says rel counted k fact e =
    elim (nat_eq rel counted) as (λ t. nat_eq rel counted ≡ t → (if t then (if nat_eq k 1 then Some (Injective counted) else None) else (if nat_eq k 0 then Some (Apart rel counted) else None)) ≡ Some fact → Says fact rel counted k) [
      | true ↦ λ same. elim (nat_eq k 1) as (λ t. nat_eq k 1 ≡ t → (if t then Some (Injective counted) else None) ≡ Some fact → Says fact rel counted k) [
        | true ↦ λ one (q : Some (Injective counted) ≡ Some fact). subst (λ f. Says f rel counted k) (same_Some (Injective counted) fact q) (eqb-true rel counted same, refl, eqb-true k 1 one)
        | false ↦ λ one q. absurd (none-some fact q)
      ] refl
      | false ↦ λ same. elim (nat_eq k 0) as (λ t. nat_eq k 0 ≡ t → (if t then Some (Apart rel counted) else None) ≡ Some fact → Says fact rel counted k) [
        | true ↦ λ zero (q : Some (Apart rel counted) ≡ Some fact). subst (λ f. Says f rel counted k) (same_Some (Apart rel counted) fact q) (refl, refl, eqb-true k 0 zero)
        | false ↦ λ zero q. absurd (none-some fact q)
      ] refl
    ] refl e

-- ---- few sources

one_thing : {A : Type 0} (xs : List A) (x y : A) → length xs ≤ 1 → IsIn x xs → IsIn y xs → x ≡ y
one_thing [] x y few i j = absurd i
one_thing (z ∷ []) x y few (inl e) (inl f) = e ∙ sym f
one_thing (z ∷ []) x y few (inl e) (inr none) = absurd none
one_thing (z ∷ []) x y few (inr none) j = absurd none
one_thing (z ∷ w ∷ rest) x y few i j = let none : ⊥ = omega (arith, few) in absurd none

no_thing : {A : Type 0} (xs : List A) (x : A) → length xs ≤ 0 → IsIn x xs → ⊥
no_thing [] x few i = i
no_thing (z ∷ rest) x few i = omega (arith, few)

-- the relation of a fact, among those that constraints give
injective_is : (o : Option ConstraintFact) (rel : ℕ) → IsIn rel (injective_by o) → o ≡ Some (Injective rel)
injective_is None rel i = absurd i
injective_is (Some (Exclusive a b)) rel i = absurd i
injective_is (Some (Apart p q)) rel i = absurd i
injective_is (Some (Injective r)) rel (inl e) = λ k. Some (Injective (sym e k))
injective_is (Some (Injective r)) rel (inr none) = absurd none

data IsApartFact (o : Option ConstraintFact) (p q : ℕ) : Type 0 where
  forth : o ≡ Some (Apart p q) → IsApartFact o p q
  back : o ≡ Some (Apart q p) → IsApartFact o p q

apart_is : (o : Option ConstraintFact) (p q : ℕ) → IsIn (p, q) (apart_by o) → IsApartFact o p q
apart_is None p q i = absurd i
apart_is (Some (Exclusive a b)) p q i = absurd i
apart_is (Some (Injective r)) p q i = absurd i
apart_is (Some (Apart a b)) p q (inl e) = IsApartFact.forth (λ k. Some (Apart ((sym e k).0) ((sym e k).1)))
apart_is (Some (Apart a b)) p q (inr (inl e)) = IsApartFact.back (λ k. Some (Apart ((sym e k).1) ((sym e k).0)))
apart_is (Some (Apart a b)) p q (inr (inr none)) = absurd none

module _ (spec : Spec) (layout : Layout) (bytes : List ℕ) (number : ℕ) (hold : FactsHold spec layout bytes number) where
  abbrev HasPair : ℕ → Element → Element → Type 0
  HasPair rel x y = IsFact spec layout bytes (Pair rel x (Elem y))

  -- it can't be that there aren't few
  bounded : (c : Constraint) (k : ℕ) → slice_get spec.constraints k ≡ Some c → IsIn k (from spec number) → (rel counted most : ℕ) → IsBounding c rel counted most → (x y : Element) → HasPair rel x y
      → ((n : ℕ) → AreMany (λ e. HasPair counted e y) n → n ≤ most → ⊥) → ⊥
  bounded c k declared given rel counted most b x y there none =
      let is_fact = IsFact spec layout bytes in
      let at = bindings.Pair x y in
      let fails : LiteralHolds is_fact at b.literal → ⊥ = λ h.
      let holds : AtomHolds is_fact at b.literal.atom = subst (λ t. MatchBool t (AtomHolds is_fact at b.literal.atom → ⊥) (AtomHolds is_fact at b.literal.atom)) b.negated_is h in
      let few : AtomHolds is_fact at (atoms.Count (Into counted Second) Le most) = subst (AtomHolds is_fact at) b.atom_is holds in
      none few.0 few.1 few.2 in
      hold k at given (record {
        constraint = c;
        declared = declared;
        is_binding = subst (λ q. IsBinding is_fact q at) (sym b.quant_is) there;
        no_conjunction = subst (All (λ conj. ConjHolds is_fact at conj → ⊥)) (sym b.conjs_are)
            (All-cons (λ conj. ConjHolds is_fact at conj → ⊥) b.conj []
            (λ h. fails (All-head (LiteralHolds is_fact at) b.literal [] (subst (All (LiteralHolds is_fact at)) b.literals_are h)))
            (All-nil (λ conj. ConjHolds is_fact at conj → ⊥)));
      })

  -- what an earlier constraint says
  by_earlier : (c : Constraint) (k : ℕ) → slice_get (earlier spec number) k ≡ Some c → (fact : ConstraintFact) → IsBound fact → fact_of spec c ≡ Some fact
      → ((rel counted most : ℕ) → Says fact rel counted most → ((x y : Element) → HasPair rel x y → ((n : ℕ) → AreMany (λ e. HasPair counted e y) n → n ≤ most → ⊥) → ⊥) → ⊥) → ⊥
  by_earlier c k at fact bound is conclude =
      let b = by_conjs spec c c.conjs fact bound refl is in
      conclude b.rel b.counted b.k (bound_says b.rel b.counted b.k fact b.fact_is)
      (bounded c k (taken_at number spec.constraints k c at) (used spec number c k at fact is) b.rel b.counted b.k b.bounding)

  -- under such a relation no record has two sources
  pub injective_holds : (rel : ℕ) → IsIn rel (injective spec number) → (x z y : Element) → HasPair rel x y → HasPair rel z y → (x ≡ z → ⊥) → ⊥
  injective_holds rel i x z y one two differ =
      let f = in_flat (λ c. injective_by (fact_of spec c)) (earlier spec number) rel i in
      let at = place_of (earlier spec number) f.from f.among in
      by_earlier f.from at.0 at.1 (Injective rel) tt (injective_is (fact_of spec f.from) rel f.is_in)
      (λ r counted most says few.
      few x y (subst (λ q. HasPair q x y) (sym says.0) one)
      (λ n many le.
      let counted_is : length many.things ≡ n = many.counted in
      let most_is : most ≡ 1 = says.2 in
      let here : (e : Element) → HasPair rel e y → HasPair counted e y = λ e. subst (λ q. HasPair q e y) (sym says.1) in
      differ (one_thing many.things x z (omega (arith, le, counted_is, most_is)) (many.enumerated.all x (here x one)) (many.enumerated.all z (here z two)))))

  apart_by_fact : (c : Constraint) (k : ℕ) → slice_get (earlier spec number) k ≡ Some c → (p q : ℕ) → fact_of spec c ≡ Some (Apart p q) → (x z y : Element) → HasPair p x y → HasPair q z y → ⊥
  apart_by_fact c k at p q is x z y one two = by_earlier c k at (Apart p q) tt is
      (λ r counted most says few.
      few x y (subst (λ s. HasPair s x y) (sym says.0) one)
      (λ n many le.
      let counted_is : length many.things ≡ n = many.counted in
      let most_is : most ≡ 0 = says.2 in
      no_thing many.things z (omega (arith, le, counted_is, most_is)) (many.enumerated.all z (subst (λ s. HasPair s z y) (sym says.1) two))))

  -- what has a source under the one has none under the other
  pub apart_holds : (p q : ℕ) → IsIn (p, q) (apart spec number) → (x z y : Element) → HasPair p x y → HasPair q z y → ⊥
  apart_holds p q i x z y one two =
      let f = in_flat (λ c. apart_by (fact_of spec c)) (earlier spec number) (p, q) i in
      let at = place_of (earlier spec number) f.from f.among in
      elim (apart_is (fact_of spec f.from) p q f.is_in) as (λ _. ⊥) [
        | IsApartFact.forth is ↦ apart_by_fact f.from at.0 at.1 p q is x z y one two
        | IsApartFact.back is ↦ apart_by_fact f.from at.0 at.1 q p is z x y two one
      ]
