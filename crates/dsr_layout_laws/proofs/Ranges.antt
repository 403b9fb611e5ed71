-- Ranges of bits that share none.
use Rattle.std.proofs.Common.{◌≢◌, ◌≤◌, ◌<◌, ◌+◌, ◌*◌, ◌/◌, ℕ, suc, inl, inr, arith}
use Rattle.std.proofs.Math.Nat.{mul-le-mul_right}
use Rattle.std.proofs.lemmas.Bool.{cases_lt}
use Rattle.dsr_ir.specs.declared.layouts.PoolNumbers.{PoolNumbers}
use Rattle.dsr_meaning.specs.Legal.{IsByteOf}
use Rattle.dsr_meaning.specs.Writes.{AreBitsApart, IsBitOf}

-- ranges that share no bit are apart, where each has some
are_apart : (a m b n : ℕ) → 0 < m → 0 < n → ((j : ℕ) → IsBitOf a m j → IsBitOf b n j → ⊥) → AreBitsApart a m b n
are_apart a m b n some any none = elim (cases_lt b (a + m)) [
  | inr before ↦ inl before
  | inl later ↦ elim (cases_lt a (b + n)) [
    | inr behind ↦ inr behind
    | inl earlier ↦ elim (cases_lt a b) [
      | inl lt ↦ absurd (none b (record { from = omega arith; before = later }) (record { from = omega arith; before = omega arith }))
      | inr le ↦ absurd (none a (record { from = omega arith; before = omega arith }) (record { from = le; before = earlier }))
    ]
  ]
]

-- an item of a row of as wide ones ends where or before a later one begins
pub row_step : (i j width : ℕ) → i < j → i * width + width ≤ j * width
row_step i j width lt =
    let more : suc i * width ≤ j * width = mul-le-mul_right width lt in
    omega (arith, more)

-- what lies in two slots of one pool
pub slots_apart : (n : PoolNumbers) (s t p v q w : ℕ) → s ≢ t → p + v ≤ 8 * n.slot → q + w ≤ 8 * n.slot → AreBitsApart (8 * (n.start + s * n.slot) + p) v (8 * (n.start + t * n.slot) + q) w
slots_apart n s t p v q w other one two = elim (cases_lt s t) [
  | inl lt ↦ inl (omega (arith, one, row_step s t n.slot lt))
  | inr le ↦ inr (omega (arith, two, row_step t s n.slot (omega (arith, le, other))))
]

-- what lies in slots of two pools that share no byte
pub pools_apart : (m n : PoolNumbers) (s t p v q w : ℕ) → ((at : ℕ) → IsByteOf m at → IsByteOf n at → ⊥) → s < m.count → t < n.count → 0 < v → 0 < w → p + v ≤ 8 * m.slot → q + w ≤ 8 * n.slot → AreBitsApart (8 * (m.start + s * m.slot) + p) v (8 * (n.start + t * n.slot) + q) w
pools_apart m n s t p v q w apart lt less some any one two =
    let low : s * m.slot + m.slot ≤ m.count * m.slot = row_step s m.count m.slot lt in
    let high : t * n.slot + n.slot ≤ n.count * n.slot = row_step t n.count n.slot less in
    are_apart (8 * (m.start + s * m.slot) + p) v (8 * (n.start + t * n.slot) + q) w some any (λ j here there.
    apart (j / 8)
    (record { from = omega (arith, here.from); before = omega (arith, here.before, one, low) })
    (record { from = omega (arith, there.from); before = omega (arith, there.before, two, high) }))
