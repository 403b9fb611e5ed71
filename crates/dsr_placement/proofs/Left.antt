-- What is left, one constraint after the other.
use Rattle.std.proofs.Common.{◌≡◌, ◌<◌, ◌+◌, ℕ, zero, suc, Bool, true, false, nat_eq, List, [], ◌∷◌, length, refl, subst, arith}
use Rattle.std.proofs.lemmas.Bool.{false≢true}
use Rattle.std.proofs.lemmas.Bool.Decides.{nat_tests}
use Rattle.dsr_placement.specs.Placing.{IsLeft}

pub left_below : (left : List Bool) (n : ℕ) → IsLeft left n → n < length left
left_below [] n is = absurd (false≢true is)
left_below (x ∷ left) zero is = omega arith
left_below (x ∷ left) (suc n) is = let less = left_below left n is in omega (arith, less)

-- none of those so far, and not this one
pub none_more : (P : ℕ → Type 0) (n : ℕ) → (P n → ⊥) → ((m : ℕ) → m < n → P m → ⊥) → (m : ℕ) → m < n + 1 → P m → ⊥
none_more P n not_here before m below its =
    elim (nat_eq m n) as (λ t. nat_eq m n ≡ t → ⊥) [
      | true ↦ λ e. let same : m ≡ n = grind (arith, nat_tests) in not_here (subst P same its)
      | false ↦ λ e. before m (grind (arith, nat_tests)) its
    ] refl
