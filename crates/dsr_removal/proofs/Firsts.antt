-- The first of a kind is one, and a kind with a first one for each has none or a first one.
use Rattle.std.proofs.Common.{◌≡◌, ◌<◌, ℕ, zero, suc, List, true, false, nat_lt, Option, None, Some, refl, sym, subst, ◌∙◌, arith}
use Rattle.std.proofs.lemmas.Bool.Decides.{nat_tests}
use Rattle.std.proofs.lemmas.Option.{same_Some}
use Rattle.dsr_graph_theory.specs.Breaks.{Breaks, IsFirstReason, first, later, none}
use Rattle.dsr_graph_theory.specs.declared.causes.Cause.{Cause}
use Rattle.dsr_graph_theory.specs.declared.causes.Reason.{Reason}
use Rattle.dsr_ir.specs.declared.updates.Template.{Template}
use Rattle.dsr_graph_theory.specs.Owners.{Owner}
use Rattle.dsr_plan_theory.specs.Plans.{owner_at}
use Rattle.dsr_plan_theory.specs.StuckSets.{BreaksFor, FindsFirst, IsFirst}

pub first_one : (Kind : ℕ → Type 0) (n m : ℕ) → IsFirst Kind n → IsFirst Kind m → n ≡ m
first_one Kind n m a b =
    elim (nat_lt n m) as (λ t. nat_lt n m ≡ t → n ≡ m) [
      | true ↦ λ e. absurd (b.none_before n (grind (arith, nat_tests)) a.is)
      | false ↦ λ e. elim (nat_lt m n) as (λ t. nat_lt m n ≡ t → n ≡ m) [
        | true ↦ λ f. absurd (a.none_before m (grind (arith, nat_tests)) b.is)
        | false ↦ λ f. grind (arith, nat_tests)
      ] refl
    ] refl

-- ---- a kind that is told in another way

module _ (K L : ℕ → Type 0) (to : (n : ℕ) → K n → L n) (back : (n : ℕ) → L n → K n) where
  pub first_same : (n : ℕ) → IsFirst K n → IsFirst L n
  first_same n its = record {
    is = to n its.is;
    none_before = λ m less other. its.none_before m less (back m other);
  }

  pub finds_same : (found : Option ℕ) → FindsFirst K found → FindsFirst L found
  finds_same None none_is = λ n other. none_is n (back n other)
  finds_same (Some n) its = first_same n its

-- where none is the first one, there is none
none_below : (Kind : ℕ → Type 0) → ((n : ℕ) → IsFirst Kind n → ⊥) → (n m : ℕ) → m < n → Kind m → ⊥
none_below Kind no_first zero m less its = absurd (omega (arith, less))
none_below Kind no_first (suc n) m less its =
    no_first m (record { is = its; none_before = λ k below. none_below Kind no_first n k (omega (arith, less, below)) })

pub none_at_all : (Kind : ℕ → Type 0) → ((n : ℕ) → IsFirst Kind n → ⊥) → (n : ℕ) → Kind n → ⊥
none_at_all Kind no_first n its = none_below Kind no_first (suc n) n (omega arith) its

-- ---- reasons

pub reason_one : {Such : Cause → Type 0} {causes : List Cause} {r s : Option Reason} → IsFirstReason Such causes r → IsFirstReason Such causes s → r ≡ s
reason_one none none = refl
reason_one (first cause such) (first cause_too such_too) = refl
reason_one (first cause such) (later cause_too not_such b) = absurd (not_such such)
reason_one (later cause not_such a) (first cause_too such) = absurd (not_such such)
reason_one (later cause not_such a) (later cause_too not_too b) = reason_one a b

pub reason_for_one : (owner : Owner) (template : Template) (n : ℕ) (r s : Reason) → BreaksFor owner template n r → BreaksFor owner template n s → r ≡ s
reason_for_one owner template n r s a b =
    let other : a.other ≡ b.other = same_Some a.other b.other (sym a.other_is ∙ b.other_is) in
    let moved = subst (λ o. Breaks owner (owner_at owner.spec n o) template (Some r)) other a.breaks in
    same_Some r s (reason_one moved b.breaks)
