-- Numbers beside their successors.
use Rattle.std.proofs.Common.{◌≡◌, ◌<◌, ◌+◌, ◌⊎◌, ℕ, inl, inr, arith}
use Rattle.std.proofs.lemmas.Bool.{cases_lt}

-- a number below the next one is below this one, or is this one
pub below_next : (m n : ℕ) → m < n + 1 → (m < n) ⊎ (m ≡ n)
below_next m n less = elim (cases_lt m n) [
  | inl lt ↦ inl lt
  | inr ge ↦ inr (omega (arith, less, ge))
]
