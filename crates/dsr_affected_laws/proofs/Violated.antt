-- Where the same facts of a constraint's symbols are there, the same of its bindings are violated.
use Rattle.std.proofs.Common.{◌≡◌, ◌≢◌, ◌↔◌, ◌∙◌, ℕ, Bool, true, false, List, Option, None, Some, IsSomeAnd, MatchBool, slice_get, inl, inr, refl, sym, ap, subst, arith}
use Rattle.std.proofs.lemmas.Bool.{cases_lt}
use Rattle.std.proofs.lemmas.Option.{same_Some}
use Rattle.dsr_affected_laws.specs.Affected.{HasSymbol, IsAffected, IsAffectedConstraint, atom_symbols, bound_symbols, quant_symbols}
use Rattle.dsr_affected_laws.specs.Affected.HasSymbol.{of_literal, quantified}
use Rattle.dsr_affected_laws.specs.Differing.{AreAlikeBut, CoversAffected, IsRising}
use Rattle.dsr_affected_laws.proofs.Facts.{same_facts}
use Rattle.dsr_ir.specs.declared.constraints.Atom.{Atom}
use Rattle.dsr_ir.specs.declared.constraints.Atom.TheVariants as atoms
use Rattle.dsr_ir.specs.declared.constraints.Bound.{Bound}
use Rattle.dsr_ir.specs.declared.constraints.Bound.TheVariants as bounds
use Rattle.dsr_ir.specs.declared.constraints.Conj.{Conj}
use Rattle.dsr_ir.specs.declared.constraints.Constraint.{Constraint}
use Rattle.dsr_ir.specs.declared.constraints.Literal.{Literal}
use Rattle.dsr_ir.specs.declared.constraints.Measure.{Measure}
use Rattle.dsr_ir.specs.declared.constraints.Measure.TheVariants.{Whole, Out, Into}
use Rattle.dsr_ir.specs.declared.constraints.Quant.{Quant}
use Rattle.dsr_ir.specs.declared.constraints.Quant.TheVariants as quants
use Rattle.dsr_ir.specs.declared.declarations.FieldRef.{FieldRef}
use Rattle.dsr_ir.specs.declared.declarations.Spec.{Spec}
use Rattle.dsr_ir.specs.declared.layouts.Layout.{Layout}
use Rattle.dsr_ir.specs.declared.tuples.Binding.{Binding}
use Rattle.dsr_ir.specs.declared.tuples.Binding.TheVariants as bindings
use Rattle.dsr_ir.specs.declared.tuples.Element.{Element}
use Rattle.dsr_ir.specs.declared.tuples.Fact.{Fact}
use Rattle.dsr_ir.specs.declared.tuples.Fact.TheVariants.{Member, Pair}
use Rattle.dsr_ir.specs.declared.tuples.Target.TheVariants.{Elem, Num}
use Rattle.dsr_ir.specs.declared.updates.Symbol.{Symbol}
use Rattle.dsr_ir.specs.declared.updates.Symbol.TheVariants.{Set, Rel}
use Rattle.dsr_meaning.specs.Consistency.{BoundConstraint, Comes, ConjHolds, IsBinding, IsConsistent, IsFirstViolated, IsViolated, NoneIsViolated}
use Rattle.dsr_meaning.specs.Counting.{AreMany, IsIn}
use Rattle.dsr_meaning.specs.Looking.{symbol_of}
use Rattle.dsr_meaning.specs.Models.{IsFact}
use Rattle.dsr_meaning.specs.Truth.{AtomHolds, HasBound, HasSize, LiteralHolds, element_of}
use Rattle.dsr_model.proofs.Enumerated.{many_same}
use Rattle.dsr_meaning.proofs.Items.{all_of, of_all}
use Rattle.dsr_model_laws.proofs.Listed.{numbers}
use Rattle.dsr_update_theory.specs.Templates.{counted_symbol}

-- both say the same of each fact of the symbol
abbrev pub AreSameOf : (Fact → Type 0) → (Fact → Type 0) → Symbol → Type 0
AreSameOf P Q symbol = (fact : Fact) → symbol_of fact ≡ symbol → P fact ↔ Q fact

abbrev pub AreSameIn : (Fact → Type 0) → (Fact → Type 0) → List Symbol → Type 0
AreSameIn P Q symbols = (symbol : Symbol) → IsIn symbol symbols → AreSameOf P Q symbol

turned : (P Q : Fact → Type 0) (symbols : List Symbol) → AreSameIn P Q symbols → AreSameIn Q P symbols
turned P Q symbols same symbol is_in fact is = let s = same symbol is_in fact is in (s.1, s.0)

as_many : {A : Type 0} (P Q : A → Type 0) (n : ℕ) → ((x : A) → P x ↔ Q x) → AreMany P n → AreMany Q n
as_many P Q n same many = many_same P Q n (λ x. (same x).0) (λ x. (same x).1) many

of_named : (named : Option Element) (A B : Element → Type 0) → ((x : Element) → A x → B x) → IsSomeAnd named A → IsSomeAnd named B
of_named None A B to holds = absurd holds
of_named (Some x) A B to holds = to x holds

size_same : (P Q : Fact → Type 0) (b : Binding) (measure : Measure) → AreSameOf P Q (counted_symbol measure) → (n : ℕ) → HasSize P b measure n → HasSize Q b measure n
size_same P Q b (Whole set) same n size = as_many (λ e. P (Member set e)) (λ e. Q (Member set e)) n (λ e. same (Member set e) refl) size
size_same P Q b (Out v rel) same n size =
    of_named (element_of b v) (λ x. AreMany (λ t. P (Pair rel x t)) n) (λ x. AreMany (λ t. Q (Pair rel x t)) n)
    (λ x. as_many (λ t. P (Pair rel x t)) (λ t. Q (Pair rel x t)) n (λ t. same (Pair rel x t) refl)) size
size_same P Q b (Into rel v) same n size =
    of_named (element_of b v) (λ y. AreMany (λ e. P (Pair rel e (Elem y))) n) (λ y. AreMany (λ e. Q (Pair rel e (Elem y))) n)
    (λ y. as_many (λ e. P (Pair rel e (Elem y))) (λ e. Q (Pair rel e (Elem y))) n (λ e. same (Pair rel e (Elem y)) refl)) size

bound_same : (P Q : Fact → Type 0) (b : Binding) (bound : Bound) → AreSameIn P Q (bound_symbols bound) → (n : ℕ) → HasBound P b bound n → HasBound Q b bound n
bound_same P Q b (bounds.Num k) same n holds = holds
bound_same P Q b (bounds.Size measure) same n holds = size_same P Q b measure (same (counted_symbol measure) (inl refl)) n holds

atom_same : (P Q : Fact → Type 0) (b : Binding) (atom : Atom) → AreSameIn P Q (atom_symbols atom) → AtomHolds P b atom → AtomHolds Q b atom
atom_same P Q b (atoms.Member v set) same holds = of_named (element_of b v) (λ x. P (Member set x)) (λ x. Q (Member set x)) (λ x. (same (Set set) (inl refl) (Member set x) refl).0) holds
atom_same P Q b (atoms.Pair v w rel) same holds =
    of_named (element_of b v) (λ x. IsSomeAnd (element_of b w) (λ y. P (Pair rel x (Elem y)))) (λ x. IsSomeAnd (element_of b w) (λ y. Q (Pair rel x (Elem y))))
    (λ x. of_named (element_of b w) (λ y. P (Pair rel x (Elem y))) (λ y. Q (Pair rel x (Elem y))) (λ y. (same (Rel rel) (inl refl) (Pair rel x (Elem y)) refl).0)) holds
atom_same P Q b (atoms.Count measure op k) same holds = (holds.0, size_same P Q b measure (same (counted_symbol measure) (inl refl)) holds.0 holds.1, holds.2)
atom_same P Q b (atoms.Value v rel op bound) same holds =
    of_named (element_of b v) _ _
    (λ x all. (
      all.0,
      bound_same P Q b bound (λ symbol is_in. same symbol (inr is_in)) all.0 all.1,
      λ value q. all.2 value ((same (Rel rel) (inl refl) (Pair rel x (Num value)) refl).1 q),
    ))
    holds

denied_or_not : (negated : Bool) (A B : Type 0) → (A → B) → (B → A) → MatchBool negated (A → ⊥) A → MatchBool negated (B → ⊥) B
denied_or_not true A B to from denied = λ b. denied (from b)
denied_or_not false A B to from holds = to holds

literal_same : (P Q : Fact → Type 0) (b : Binding) (literal : Literal) → AreSameIn P Q (atom_symbols literal.atom) → LiteralHolds P b literal → LiteralHolds Q b literal
literal_same P Q b literal same =
    denied_or_not literal.negated (AtomHolds P b literal.atom) (AtomHolds Q b literal.atom)
    (atom_same P Q b literal.atom same) (atom_same Q P b literal.atom (turned P Q (atom_symbols literal.atom) same))

binding_same : (P Q : Fact → Type 0) (quant : Quant) (b : Binding) → AreSameIn P Q (quant_symbols quant) → IsBinding P quant b → IsBinding Q quant b
binding_same P Q quants.Once bindings.Once same is = is
binding_same P Q quants.Once (bindings.Each e) same is = absurd is
binding_same P Q quants.Once (bindings.Pair e f) same is = absurd is
binding_same P Q (quants.Each set) bindings.Once same is = absurd is
binding_same P Q (quants.Each set) (bindings.Each e) same is = (same (Set set) (inl refl) (Member set e) refl).0 is
binding_same P Q (quants.Each set) (bindings.Pair e f) same is = absurd is
binding_same P Q (quants.Pairs rel) bindings.Once same is = absurd is
binding_same P Q (quants.Pairs rel) (bindings.Each e) same is = absurd is
binding_same P Q (quants.Pairs rel) (bindings.Pair e f) same is = (same (Rel rel) (inl refl) (Pair rel e (Elem f)) refl).0 is

-- both say the same of each fact of the constraint's symbols
abbrev pub AreSameFor : (Fact → Type 0) → (Fact → Type 0) → Constraint → Type 0
AreSameFor P Q c = (symbol : Symbol) → HasSymbol c symbol → AreSameOf P Q symbol

module _ (P Q : Fact → Type 0) (c : Constraint) (same : AreSameFor P Q c) (b : Binding) where
  of_conj : (conj : Conj) → IsIn conj c.conjs → ConjHolds Q b conj → ConjHolds P b conj
  of_conj conj is_in holds =
      all_of (LiteralHolds P b) conj.literals
      (λ literal among.
      literal_same Q P b literal (turned P Q (atom_symbols literal.atom) (λ symbol its. same symbol (of_literal conj literal is_in among its)))
      (of_all (LiteralHolds Q b) conj.literals literal holds among))

pub violated_same : (P Q : Fact → Type 0) (spec : Spec) (v : BoundConstraint) (c : Constraint) → slice_get spec.constraints v.constraint ≡ Some c → AreSameFor P Q c → IsViolated P spec v → IsViolated Q spec v
violated_same P Q spec v c is same violated =
    let own : violated.constraint ≡ c = same_Some violated.constraint c (sym violated.declared ∙ is) in
    let none = subst (λ (d : Constraint). (conj : Conj) → IsIn conj d.conjs → ConjHolds P v.binding conj → ⊥) own (λ conj is_in. of_all (λ x. ConjHolds P v.binding x → ⊥) violated.constraint.conjs conj violated.no_conjunction is_in) in
    record {
      constraint = c;
      declared = is;
      is_binding = binding_same P Q c.quant v.binding (λ symbol is_in. same symbol (quantified is_in)) (subst (λ (d : Constraint). IsBinding P d.quant v.binding) own violated.is_binding);
      no_conjunction = all_of (λ conj. ConjHolds Q v.binding conj → ⊥) c.conjs (λ conj is_in holds. none conj is_in (of_conj P Q c same v.binding conj is_in holds));
    }

-- ---- constraints that aren't affected

module _ (spec : Spec) (layout : Layout) (fields : List FieldRef) (old new : List ℕ) (alike : AreAlikeBut spec layout fields old new) where
  abbrev Was : Fact → Type 0
  Was = IsFact spec layout old

  abbrev Is : Fact → Type 0
  Is = IsFact spec layout new

  facts_for : (c : Constraint) → (IsAffectedConstraint spec fields c → ⊥) → AreSameFor Is Was c
  facts_for c free symbol has fact is =
      same_facts spec layout fields old new alike fact
      (λ affected. free (record { symbol = symbol; has = has; affected = subst (IsAffected spec fields) is affected }))

  pub same_violated : (v : BoundConstraint) (c : Constraint) → slice_get spec.constraints v.constraint ≡ Some c → (IsAffectedConstraint spec fields c → ⊥) → IsViolated Is spec v ↔ IsViolated Was spec v
  same_violated v c is free = (
    violated_same Is Was spec v c is (facts_for c free),
    violated_same Was Is spec v c is (λ symbol has fact its. let s = facts_for c free symbol has fact its in (s.1, s.0)),
  )

  pub listed_violated : (order : List ℕ) (v : BoundConstraint) → CoversAffected spec fields order → IsConsistent spec layout old → IsViolated Is spec v → (at : ℕ) × (slice_get order at ≡ Some v.constraint)
  listed_violated order v covers was violated = elim (covers v.constraint violated.constraint violated.declared) as (λ _. (at : ℕ) × (slice_get order at ≡ Some v.constraint)) [
    | inl listed ↦ listed
    | inr free ↦ absurd (was v ((same_violated v violated.constraint violated.declared free).0 violated))
  ]

  pub still_consistent : (order : List ℕ) → CoversAffected spec fields order → IsConsistent spec layout old → NoneIsViolated Is spec order → IsConsistent spec layout new
  still_consistent order covers was none v violated = let at = listed_violated order v covers was violated in none at.0 v at.1 violated

  -- what is first of the listed ones is first of all
  pub first_of_all : (order : List ℕ) (v w : BoundConstraint) → CoversAffected spec fields order → IsRising order → IsConsistent spec layout old → IsFirstViolated Is spec order v → IsViolated Is spec w → Comes w v → ⊥
  first_of_all order v w covers rising was first violated comes =
      let at = listed_violated order w covers was violated in
      elim comes as (λ _. ⊥) [
        | inl lt ↦ elim (cases_lt at.0 first.at) as (λ _. ⊥) [
          | inl before ↦ first.none_before at.0 w before at.1 violated
          | inr from ↦ elim (numbers first.at at.0) as (λ _. ⊥) [
            | inl here ↦
                let same : v.constraint ≡ w.constraint = same_Some v.constraint w.constraint (sym first.placed ∙ (ap (slice_get order) here ∙ at.1)) in
                omega (arith, lt, same)
            | inr other ↦
                let differ : first.at ≢ at.0 = other in
                let above = rising first.at at.0 v.constraint w.constraint (omega (arith, from, differ)) first.placed at.1 in
                omega (arith, lt, above)
          ]
        ]
        | inr within ↦ first.least w.binding (subst (λ n. IsViolated Is spec (record { constraint = n; binding = w.binding })) within.0 violated) within.1
      ]
