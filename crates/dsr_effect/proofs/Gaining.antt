-- Marks that are set one after the other, each by what its item tells.
use Rattle.std.proofs.Common.{◌≡◌, ◌≢◌, ◌<◌, ◌+◌, ◌↔◌, ℕ, Bool, true, false, nat_eq, IsTrue, List, length, get_or, set, slice_get, Option, Some, refl, sym, ap, subst, ◌∙◌, arith}
use Rattle.std.proofs.lemmas.Bool.Decides.{nat_tests}
use Rattle.std.proofs.lemmas.List.{get_or-set_same, get_or-set_other, length-set}
use Rattle.std.proofs.lemmas.Option.{same_Some}

-- those before the place are marked as they are
abbrev pub AreMarkedBefore : {T : Type 0} → (T → Type 0) → List T → List Bool → ℕ → Type 0
AreMarkedBefore {T} P xs marks n =
    (m : ℕ) (y : T) → m < n → slice_get xs m ≡ Some y → IsTrue (get_or marks m false) ↔ P y

pub mark_more : {T : Type 0} (P : T → Type 0) (xs : List T) (marks : List Bool) (n : ℕ) (x : T) (b : Bool) → n < length marks → slice_get xs n ≡ Some x → IsTrue b ↔ P x → AreMarkedBefore P xs marks n → AreMarkedBefore P xs (set marks n b) (n + 1)
mark_more {T} P xs marks n x b less here decides before m y below there =
    elim (nat_eq m n) as (λ t. nat_eq m n ≡ t → IsTrue (get_or (set marks n b) m false) ↔ P y) [
      | true ↦ λ e.
          let same : m ≡ n = grind (arith, nat_tests) in
          let is : x ≡ y = same_Some x y (sym here ∙ (ap (slice_get xs) (sym same) ∙ there)) in
          subst (λ t. IsTrue t ↔ P y) (sym (ap (λ k. get_or (set marks n b) k false) same ∙ get_or-set_same marks n b false less))
          (subst (λ z. IsTrue b ↔ P z) is decides)
      | false ↦ λ e.
          let other : m ≢ n = λ q. absurd (grind (arith, nat_tests)) in
          subst (λ t. IsTrue t ↔ P y) (sym (get_or-set_other marks n m b false other))
          (before m y (grind (arith, nat_tests)) there)
    ] refl
