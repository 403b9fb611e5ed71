-- Numbers that need more than so many bits.
use Rattle.std.proofs.Common.{◌≡◌, ◌<◌, ◌≤◌, ◌/◌, ◌*◌, ◌+◌, ◌^◌, ℕ, true, false, not, eqb, leb, ltb, refl, arith}
use Rattle.std.proofs.Math.Nat.{lt-div-mul-add, div-eq_of_lt}
use Rattle.std.proofs.Math.Pow.{pow_mono}
use Rattle.std.proofs.lemmas.Bool.Decides.{nat_tests}

-- a number is at least another one exactly where it holds that one once
pub holds_once : (n p : ℕ) → 0 < p → not (eqb (n / p) 0) ≡ leb p n
holds_once n p positive = elim (leb p n) as (λ b. leb p n ≡ b → not (eqb (n / p) 0) ≡ b) [
  | true ↦ λ e. elim (eqb (n / p) 0) as (λ b. eqb (n / p) 0 ≡ b → not b ≡ true) [
    | true ↦ λ z. let below : n < n / p * p + p = lt-div-mul-add positive in grind (arith, nat_tests)
    | false ↦ λ _. refl
  ] refl
  | false ↦ λ e. let below : n < p = grind (arith, nat_tests) in rw (div-eq_of_lt below) refl
] refl

-- a number of 64 bits needs no more than 64 bits or more
pub never_too_wide : (bits n : ℕ) → 64 ≤ bits → n < 2 ^ 64 → ltb bits 64 ≡ leb (2 ^ bits) n
never_too_wide bits n many below = let most : 2 ^ 64 ≤ 2 ^ bits = pow_mono many in grind (arith, nat_tests)
