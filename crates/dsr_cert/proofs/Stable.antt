-- Whether a row's tests cover its constraint is settled for each truth by itself.
use Rattle.std.proofs.Common.{◌≡◌, ◌⊎◌, ℕ, zero, suc, inl, inr, Bool, true, false, IsTrue, List, [], ◌∷◌, Option, None, Some, slice_get, refl, subst}
use Rattle.std.proofs.lemmas.Bool.{false≢true}
use Rattle.dsr_ir.specs.declared.constraints.Conj.{Conj}
use Rattle.dsr_ir.specs.declared.constraints.Constraint.{Constraint}
use Rattle.dsr_ir.specs.declared.constraints.Literal.{Literal}
use Rattle.dsr_plan_theory.specs.Plans.{Covers, IsTested, SomeConjPasses, Truth, comes_out, way_at}
use Rattle.dsr_plan_theory.specs.declared.choices.Row.{Row}
use Rattle.dsr_plan_theory.specs.declared.choices.Way.{Way}
use Rattle.dsr_plan_theory.specs.declared.choices.Way.TheVariants.{Test, By}

abbrev Settled : Type 0 → Type 0
Settled P = P ⊎ (P → ⊥)

test_or_not : (o : Option Way) → Settled (o ≡ Some Test)
test_or_not None = inr (λ e. absurd cc)
test_or_not (Some Test) = inl refl
test_or_not (Some (By number template)) = inr (λ e. absurd cc)

module _ (truth : Truth) where
  abbrev Passes : (ℕ → Type 0) → List Literal → Type 0
  Passes Tested literals = (n : ℕ) (literal : Literal) → slice_get literals n ≡ Some literal → Tested n → IsTrue (comes_out truth literal)

  passes_more : (Tested : ℕ → Type 0) (l : Literal) (literals : List Literal) → (Tested 0 → IsTrue (comes_out truth l)) → Passes (λ n. Tested (suc n)) literals → Passes Tested (l ∷ literals)
  passes_more Tested l literals first rest zero literal is tested = let same : l ≡ literal = cc in subst (λ x. IsTrue (comes_out truth x)) same (first tested)
  passes_more Tested l literals first rest (suc n) literal is tested = rest n literal is tested

  first_passes : (T : Type 0) (b : Bool) → Settled T → Settled (T → IsTrue b)
  first_passes T true tested = inl (λ _. refl)
  first_passes T false (inl is) = inr (λ to. false≢true (to is))
  first_passes T false (inr never) = inl (λ is. absurd (never is))

  passes_or_not : (Tested : ℕ → Type 0) → ((n : ℕ) → Settled (Tested n)) → (literals : List Literal) → Settled (Passes Tested literals)
  passes_or_not Tested tests [] = inl (λ n literal is. absurd cc)
  passes_or_not Tested tests (l ∷ literals) = by (first_passes (Tested 0) (comes_out truth l) (tests 0)) (passes_or_not (λ n. Tested (suc n)) (λ n. tests (suc n)) literals) where
    by : Settled (Tested 0 → IsTrue (comes_out truth l)) → Settled (Passes (λ n. Tested (suc n)) literals) → Settled (Passes Tested (l ∷ literals))
    by (inl first) (inl rest) = inl (passes_more Tested l literals first rest)
    by (inl first) (inr fails) = inr (λ all. fails (λ n literal is. all (suc n) literal is))
    by (inr fails) rest = inr (λ all. fails (all 0 l refl))

  abbrev SomePasses : (ℕ → ℕ → Type 0) → List Conj → Type 0
  SomePasses Tested conjs = (number : ℕ) × (conj : Conj) × (slice_get conjs number ≡ Some conj) × Passes (Tested number) conj.literals

  some_more : (Tested : ℕ → ℕ → Type 0) (c : Conj) (conjs : List Conj) → (Passes (Tested 0) c.literals → ⊥) → (SomePasses (λ n. Tested (suc n)) conjs → ⊥) → SomePasses Tested (c ∷ conjs) → ⊥
  some_more Tested c conjs first rest (zero, conj, is, passes) = let same : conj ≡ c = cc in first (subst (λ x. Passes (Tested 0) x.literals) same passes)
  some_more Tested c conjs first rest (suc number, conj, is, passes) = rest (number, conj, is, passes)

  some_or_not : (Tested : ℕ → ℕ → Type 0) → ((conj n : ℕ) → Settled (Tested conj n)) → (conjs : List Conj) → Settled (SomePasses Tested conjs)
  some_or_not Tested tests [] = inr (λ s. let is = s.2 in absurd cc)
  some_or_not Tested tests (c ∷ conjs) = by (passes_or_not (Tested 0) (tests 0) c.literals) (some_or_not (λ n. Tested (suc n)) (λ n. tests (suc n)) conjs) where
    by : Settled (Passes (Tested 0) c.literals) → Settled (SomePasses (λ n. Tested (suc n)) conjs) → Settled (SomePasses Tested (c ∷ conjs))
    by (inl passes) rest = inl (0, c, refl, passes)
    by (inr fails) (inl s) = inl (suc s.0, s.1, s.2, s.3)
    by (inr fails) (inr none) = inr (some_more Tested c conjs fails none)

-- so they cover it where it isn't so that they don't
pub covers_stable : (constraint : Constraint) (row : Row) → ((Covers constraint (IsTested row) → ⊥) → ⊥) → Covers constraint (IsTested row)
covers_stable constraint row never truth = by (some_or_not truth (IsTested row) (λ conj n. test_or_not (way_at row conj n)) constraint.conjs) where
  by : Settled (SomePasses truth (IsTested row) constraint.conjs) → SomeConjPasses constraint (IsTested row) truth
  by (inl s) = record { number = s.0; conj = s.1; conj_is = s.2; passes = s.3 }
  by (inr none) = absurd (never (λ covers. let s = covers truth in none (s.number, s.conj, s.conj_is, s.passes)))
