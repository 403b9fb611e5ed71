-- Numbers only grow with each digit.
use Rattle.std.proofs.Common.{◌≡◌, ℕ, suc, ◌+◌, ◌*◌, ◌<◌, ◌≤◌, List, [], ◌∷◌, length, get_or, drop, true, false, Some, None, refl, subst, drop-cons, arith, nat_lt, cond}
use Rattle.std.proofs.Math.Nat.{le-mul_of_pos_right}
use Rattle.std.proofs.lemmas.Bool.Decides.{nat_tests}
use Rattle.dsr_syntax_theory.specs.Tokens.{value_after, digit_value}
use Rattle.dsr_lexer.specs.Front.{number_below}

pub mul_grows : (n base : ℕ) → 1 ≤ base → n ≤ n * base
mul_grows n base h = le-mul_of_pos_right n (omega arith)

pub value_grows : (base before : ℕ) (digits : List ℕ) → 1 ≤ base → before ≤ value_after base before digits
value_grows base before [] h = omega arith
value_grows base before (d ∷ digits) h = let more : before * base + digit_value d ≤ value_after base (before * base + digit_value d) digits = value_grows base (before * base + digit_value d) digits h in omega (arith, mul_grows before base h, more)

-- past the limit, the digits that follow do not come back below it
pub passes_limit : (limit base before whole : ℕ) (digits : List ℕ) (i : ℕ) → 1 ≤ base → i < length digits → value_after base before (drop i digits) ≡ whole → (before * base + digit_value (get_or digits i 0) < limit → ⊥) → number_below limit whole ≡ None
passes_limit limit base before whole digits i one within e past =
    let step : value_after base (before * base + digit_value (get_or digits i 0)) (drop (suc i) digits) ≡ whole = subst (λ ds. value_after base before ds ≡ whole) (drop-cons digits i 0 within) e in
    let grows : before * base + digit_value (get_or digits i 0) ≤ whole = subst (λ n. before * base + digit_value (get_or digits i 0) ≤ n) step (value_grows base (before * base + digit_value (get_or digits i 0)) (drop (suc i) digits) one) in
    grind (arith, nat_tests)

pub stays_below : (limit n : ℕ) → n < limit → Some n ≡ number_below limit n
stays_below limit n h = grind (arith, nat_tests)

pub below_some : (limit n found : ℕ) → Some found ≡ number_below limit n → (found ≡ n) × (n < limit)
below_some limit n found e = elim (nat_lt n limit) as (λ b. nat_lt n limit ≡ b → Some found ≡ cond b (Some n) None → (found ≡ n) × (n < limit)) [
  | true ↦ λ below e. (cc, grind (arith, nat_tests, below))
  | false ↦ λ _ e. absurd cc
] refl e

pub below_none : (limit n : ℕ) → None ≡ number_below limit n → n < limit → ⊥
below_none limit n e below = elim (nat_lt n limit) as (λ b. nat_lt n limit ≡ b → None ≡ cond b (Some n) None → ⊥) [
  | true ↦ λ _ e. absurd cc
  | false ↦ λ past _. grind (arith, nat_tests, past, below)
] refl e
