-- First reasons and first literals: there is none exactly where no one is the first.
use Rattle.std.proofs.Common.{◌≡◌, ◌<◌, ℕ, zero, suc, List, [], ◌∷◌, Option, None, Some, inl, inr, refl, sym, subst, arith}
use Rattle.std.proofs.lemmas.Option.{none-some}
use Rattle.dsr_graph_theory.specs.Breaks.{IsFirstReason}
use Rattle.dsr_graph_theory.specs.declared.causes.Cause.{Cause}
use Rattle.dsr_graph_theory.specs.declared.causes.Reason.{Reason}
use Rattle.dsr_meaning.specs.Counting.{IsIn}

module _ (Such : Cause → Type 0) where
  without : (causes : List Cause) (reason : Option Reason) → reason ≡ None → IsFirstReason Such causes reason → (cause : Cause) → IsIn cause causes → Such cause → ⊥
  without [] reason is found cause i such = i
  without (_ ∷ cs) reason is (IsFirstReason.first c one) cause i such = none-some c.reason (sym is)
  without (_ ∷ cs) reason is (IsFirstReason.later c fails rest) cause (inl same) such = fails (subst Such same such)
  without (_ ∷ cs) reason is (IsFirstReason.later c fails rest) cause (inr i) such = without cs reason is rest cause i such

  -- where there is no first reason, no cause is such a one
  pub none_such : (causes : List Cause) → IsFirstReason Such causes None → (cause : Cause) → IsIn cause causes → Such cause → ⊥
  none_such causes found = without causes None refl found

  with_cause : (causes : List Cause) (o : Option Reason) (reason : Reason) → o ≡ Some reason → IsFirstReason Such causes o → (cause : Cause) × IsIn cause causes × Such cause
  with_cause [] o reason is IsFirstReason.none = absurd (none-some reason is)
  with_cause (_ ∷ cs) o reason is (IsFirstReason.first c one) = (c, inl refl, one)
  with_cause (_ ∷ cs) o reason is (IsFirstReason.later c fails rest) = let found = with_cause cs o reason is rest in (found.0, inr found.1, found.2)

  -- where there is one, some cause is
  pub some_such : (causes : List Cause) (reason : Reason) → IsFirstReason Such causes (Some reason) → (cause : Cause) × IsIn cause causes × Such cause
  some_such causes reason found = with_cause causes (Some reason) reason refl found

  -- where no cause is such a one, there is no first reason
  pub none_first : (causes : List Cause) → ((cause : Cause) → IsIn cause causes → Such cause → ⊥) → IsFirstReason Such causes None
  none_first [] never = IsFirstReason.none
  none_first (cause ∷ rest) never = IsFirstReason.later cause (never cause (inl refl)) (none_first rest (λ c i. never c (inr i)))

  -- where no reason is the first, there is none
  pub no_reason : (causes : List Cause) → ((reason : Reason) → IsFirstReason Such causes (Some reason) → ⊥) → IsFirstReason Such causes None
  no_reason [] no_one = IsFirstReason.none
  no_reason (cause ∷ rest) no_one =
      let not_this : Such cause → ⊥ = λ such. no_one cause.reason (IsFirstReason.first cause such) in
      IsFirstReason.later cause not_this (no_reason rest (λ reason is. no_one reason (IsFirstReason.later cause not_this is)))

-- where no number is the first such one, there is none
module _ (Such : ℕ → Type 0) (no_one : (n : ℕ) → Such n → ((m : ℕ) → m < n → Such m → ⊥) → ⊥) where
  none_below : (n m : ℕ) → m < n → Such m → ⊥
  none_below zero m below such = omega (arith, below)
  none_below (suc n) m below such =
      no_one m such (λ k less. none_below n k (omega (arith, below, less)))

  pub no_first : (n : ℕ) → Such n → ⊥
  no_first n such = no_one n such (none_below n)
