-- What tests of a range's bounds say of all its numbers, and which numbers two ranges have.
use Rattle.std.proofs.Common.{arith, ◌≡◌, ◌≢◌, ◌<◌, ◌≤◌, ◌⊎◌, ◌↔◌, inl, inr, ℕ, true, false, nat_lt, refl, Decides}
use Rattle.std.proofs.lemmas.Bool.Decides.{Decides-ltb, not_from_Decides}
use Rattle.dsr_effect.specs.ValueSets.{IsInRange}
use Rattle.dsr_effect.specs.declared.values.Range.{Range}

not_below : (a b : ℕ) → nat_lt a b ≡ false → b ≤ a
not_below a b e = let h : a < b → ⊥ = not_from_Decides _ (Decides-ltb a b) e in omega arith

-- where none is before the range, it has to be beyond: its last number or nothing
pub beyond : (range : Range) (number : ℕ) → range.first ≤ number → Decides (nat_lt range.last number) ((n : ℕ) → IsInRange range n → n ≢ number)
beyond range number le = (
  (λ t n inside e. let lt : range.last < number = (Decides-ltb range.last number).0 t in omega arith),
  (λ f. elim (nat_lt range.last number) as (λ b. nat_lt range.last number ≡ b → b ≡ true) [
    | true ↦ λ _. refl
    | false ↦ λ e. absurd (f number (le, not_below range.last number e) refl)
  ] refl),
)

nowhere : (n : ℕ) → IsInRange (record { first = 1; last = 0 }) n → ⊥
nowhere n inside = omega arith

pub only_low : {P : ℕ → Type 0} (low : Range) → ((n : ℕ) → IsInRange low n ↔ P n) → (n : ℕ) → (IsInRange low n ⊎ IsInRange (record { first = 1; last = 0 }) n) ↔ P n
only_low {P} low same n = (from, λ p. inl ((same n).1 p)) where
  from : (IsInRange low n ⊎ IsInRange (record { first = 1; last = 0 }) n) → P n
  from (inl p) = (same n).0 p
  from (inr q) = absurd (nowhere n q)

pub only_high : {P : ℕ → Type 0} (high : Range) → ((n : ℕ) → IsInRange high n ↔ P n) → (n : ℕ) → (IsInRange (record { first = 1; last = 0 }) n ⊎ IsInRange high n) ↔ P n
only_high {P} high same n = (from, λ p. inr ((same n).1 p)) where
  from : (IsInRange (record { first = 1; last = 0 }) n ⊎ IsInRange high n) → P n
  from (inl q) = absurd (nowhere n q)
  from (inr p) = (same n).0 p

-- the numbers below one and those above it are those that aren't equal to it
pub apart : (low high : Range) (number limit : ℕ) → ((n : ℕ) → IsInRange low n ↔ ((n ≤ limit) × (n < number))) → ((n : ℕ) → IsInRange high n ↔ ((n ≤ limit) × (number < n))) → (n : ℕ) → (IsInRange low n ⊎ IsInRange high n) ↔ ((n ≤ limit) × (n ≢ number))
apart low high number limit lows highs n = (from, to) where
  from : (IsInRange low n ⊎ IsInRange high n) → ((n ≤ limit) × (n ≢ number))
  from (inl p) = let q : (n ≤ limit) × (n < number) = (lows n).0 p in (q.0, λ e. omega arith)
  from (inr p) = let q : (n ≤ limit) × (number < n) = (highs n).0 p in (q.0, λ e. omega arith)

  to : ((n ≤ limit) × (n ≢ number)) → IsInRange low n ⊎ IsInRange high n
  to p = elim (nat_lt n number) as (λ b. nat_lt n number ≡ b → IsInRange low n ⊎ IsInRange high n) [
    | true ↦ λ e. inl ((lows n).1 (p.0, (Decides-ltb n number).0 e))
    | false ↦ λ e. inr ((highs n).1 (p.0, (let le : number ≤ n = not_below n number e in let ne : n ≢ number = p.1 in omega arith)))
  ] refl
