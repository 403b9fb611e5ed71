-- Which bindings are violated on the image, and that the facts which constraints use hold.
use Rattle.std.proofs.Common.{◌≡◌, ◌∙◌, ℕ, Bool, true, false, List, [], ◌∷◌, All, Some, IsSomeAnd, inl, inr, refl, sym, subst, slice_get, arith}
use Rattle.std.specs.Prelude.{IsTrue}
use Rattle.std.proofs.lemmas.List.Elements.{All-cons, All-head, All-nil}
use Rattle.std.proofs.lemmas.Option.{same_Some}
use Rattle.dsr_step_laws.proofs.Given.{constraint_of, image}
use Rattle.dsr_step_laws.proofs.Violated.{literal_of}
use Rattle.dsr_repair_theory.specs.Applications.{FactsHold}
use Rattle.dsr_model_laws.proofs.Functional.{one_target}
use Rattle.dsr_example_laws.proofs.Facts.{IsTrueNow, apart, exclusive}
use Rattle.dsr_example_laws.proofs.Given.{constraints, layout, sharing}
use Rattle.dsr_example_laws.proofs.Placed.{legal}
use Rattle.dsr_ir.specs.declared.constraints.Atom.{Atom}
use Rattle.dsr_ir.specs.declared.constraints.Atom.TheVariants as atoms
use Rattle.dsr_ir.specs.declared.constraints.Bound.TheVariants as bounds
use Rattle.dsr_ir.specs.declared.constraints.Constraint.{Constraint}
use Rattle.dsr_ir.specs.declared.constraints.Measure.TheVariants.{Into}
use Rattle.dsr_ir.specs.declared.constraints.Quant.{Quant}
use Rattle.dsr_ir.specs.declared.constraints.Quant.TheVariants.{Each, Pairs}
use Rattle.dsr_ir.specs.declared.constraints.Var.{Var}
use Rattle.dsr_ir.specs.declared.constraints.Var.TheVariants.{First, Second}
use Rattle.dsr_ir.specs.declared.rules.Op.TheVariants.{Eq, Le}
use Rattle.dsr_ir.specs.declared.tuples.Binding.{Binding}
use Rattle.dsr_ir.specs.declared.tuples.Binding.TheVariants as bindings
use Rattle.dsr_ir.specs.declared.tuples.Element.{Element}
use Rattle.dsr_ir.specs.declared.tuples.Fact.TheVariants.{Pair}
use Rattle.dsr_ir.specs.declared.tuples.Target.TheVariants.{Num}
use Rattle.dsr_meaning.specs.Consistency.{ConjHolds, IsBinding, IsViolated}
use Rattle.dsr_meaning.specs.Counting.{IsIn}
use Rattle.dsr_meaning.specs.Truth.{LiteralHolds, element_of}
use Rattle.dsr_update_theory.specs.Givers.{is_functional}

-- ---- a constraint of one literal

abbrev pub IsViolatedAt : ℕ → Binding → Type 0
IsViolatedAt n b = IsViolated IsTrueNow sharing (record { constraint = n; binding = b })

-- it is violated where the literal is false
abbrev pub violated_where : (n : ℕ) (name : List ℕ) (quant : Quant) (atom : Atom) (negated : Bool) (b : Binding) → slice_get constraints n ≡ Some (constraint_of name quant atom negated) → IsBinding IsTrueNow quant b → (LiteralHolds IsTrueNow b (literal_of atom negated) → ⊥) → IsViolatedAt n b
violated_where n name quant atom negated b declared bound is_false = record {
  constraint = constraint_of name quant atom negated;
  declared = declared;
  is_binding = bound;
  no_conjunction = All-cons (λ conj. ConjHolds IsTrueNow b conj → ⊥) (record { literals = literal_of atom negated ∷ [] }) []
      (λ holds. is_false (All-head (LiteralHolds IsTrueNow b) (literal_of atom negated) [] holds)) (All-nil (λ conj. ConjHolds IsTrueNow b conj → ⊥));
}

-- and not where it is true
pub holds_where : (n : ℕ) (name : List ℕ) (quant : Quant) (atom : Atom) (negated : Bool) (b : Binding) → slice_get constraints n ≡ Some (constraint_of name quant atom negated) → (violated : IsViolatedAt n b) → (IsBinding IsTrueNow quant b → LiteralHolds IsTrueNow b (literal_of atom negated)) → ⊥
holds_where n name quant atom negated b declared violated is_true =
    let c : Constraint = constraint_of name quant atom negated in
    let same : violated.constraint ≡ c = same_Some violated.constraint c (sym violated.declared ∙ declared) in
    let bound : IsBinding IsTrueNow quant b = subst (λ (x : Constraint). IsBinding IsTrueNow x.quant b) same violated.is_binding in
    All-head (λ conj. ConjHolds IsTrueNow b conj → ⊥) (record { literals = literal_of atom negated ∷ [] }) []
    (subst (λ (x : Constraint). All (λ conj. ConjHolds IsTrueNow b conj → ⊥) x.conjs) same violated.no_conjunction)
    (All-cons (LiteralHolds IsTrueNow b) (literal_of atom negated) [] (is_true bound) (All-nil (LiteralHolds IsTrueNow b)))

-- ---- numbers of variables

abbrev HasNumbers : ℕ → ℕ → Element → Type 0
HasNumbers rel k x = (n : ℕ) × (n ≡ k) × ((value : ℕ) → IsTrueNow (Pair rel x (Num value)) → value ≡ n)

-- the record has another number
pub other_number : (b : Binding) (v : Var) (x : Element) (rel k value : ℕ) → element_of b v ≡ Some x → IsTrueNow (Pair rel x (Num value)) → (value ≡ k → ⊥) → LiteralHolds IsTrueNow b (literal_of (atoms.Value v rel Eq (bounds.Num k)) false) → ⊥
other_number b v x rel k value at fact differ holds =
    let h : HasNumbers rel k x = subst (λ o. IsSomeAnd o (HasNumbers rel k)) at holds in
    differ (h.2 value fact ∙ h.1)

-- it has this one, and no other
pub this_number : (b : Binding) (v : Var) (x : Element) (rel k : ℕ) → element_of b v ≡ Some x → IsTrue (is_functional sharing rel) → IsTrueNow (Pair rel x (Num k)) → LiteralHolds IsTrueNow b (literal_of (atoms.Value v rel Eq (bounds.Num k)) false)
this_number b v x rel k at functional fact = subst (λ o. IsSomeAnd o (HasNumbers rel k)) (sym at) (k, refl, alone) where
  alone : (value : ℕ) → IsTrueNow (Pair rel x (Num value)) → value ≡ k
  alone value there = let same : Num value ≡ Num k = one_target sharing layout image rel x (Num value) (Num k) legal functional there fact in cc

-- ---- the facts that constraints use

apart_holds : (b : Binding) → IsViolatedAt 1 b → ⊥
apart_holds b violated = holds_where 1 _ (Pairs 0) (atoms.Count (Into 1 Second) Le 0) false b refl violated (none_there b) where
  none_there : (x : Binding) → IsBinding IsTrueNow (Pairs 0) x → LiteralHolds IsTrueNow x (literal_of (atoms.Count (Into 1 Second) Le 0) false)
  none_there bindings.Once bound = absurd bound
  none_there (bindings.Each e) bound = absurd bound
  none_there (bindings.Pair h y) bound = (
    0,
    record { things = []; counted = refl; enumerated = record { distinct = tt; all = λ e there. apart h e y bound there; only = λ e among. absurd among } },
    omega arith,
  )

exclusive_holds : (b : Binding) → IsViolatedAt 4 b → ⊥
exclusive_holds b violated = holds_where 4 _ (Each 0) (atoms.Member First 1) true b refl violated (not_there b) where
  not_there : (x : Binding) → IsBinding IsTrueNow (Each 0) x → LiteralHolds IsTrueNow x (literal_of (atoms.Member First 1) true)
  not_there bindings.Once bound = absurd bound
  not_there (bindings.Each e) bound = λ there. exclusive e bound there
  not_there (bindings.Pair h y) bound = absurd bound

pub uses_nothing : FactsHold sharing layout image 0
uses_nothing giver b among bad = among

pub uses_apart : FactsHold sharing layout image 2
uses_apart giver b (inl same) bad = apart_holds b (subst (λ n. IsViolatedAt n b) same bad)
uses_apart giver b (inr none) bad = none

uses_both : (giver : ℕ) (b : Binding) → IsIn giver (1 ∷ 4 ∷ []) → IsViolatedAt giver b → ⊥
uses_both giver b (inl same) bad = apart_holds b (subst (λ n. IsViolatedAt n b) same bad)
uses_both giver b (inr (inl same)) bad = exclusive_holds b (subst (λ n. IsViolatedAt n b) same bad)
uses_both giver b (inr (inr none)) bad = none

pub uses_both_at_5 : FactsHold sharing layout image 5
uses_both_at_5 = uses_both

pub uses_both_at_7 : FactsHold sharing layout image 7
uses_both_at_7 = uses_both
