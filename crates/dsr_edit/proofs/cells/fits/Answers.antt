use Rattle.std.proofs.Common.{◌≡◌, ◌<◌, ◌≤◌, ◌+◌, ◌*◌, ◌/◌, ◌^◌, inl, inr, ℕ, true, false, nat_eq, nat_lt, sym, ap, ◌∙◌, arith}
use Rattle.std.proofs.Math.Dec.{leb}
use Rattle.std.proofs.Math.Nat.{div-eq_of_lt, zero-mul, lt-div-mul-add}
use Rattle.std.proofs.Math.Pow.{pow_mono}
use Rattle.std.proofs.lemmas.Bool.Decides.{eqb_tells, nat_tests}
use Rattle.std.proofs.lemmas.Nat.{pow_pos}
use Rattle.dsr_edit.proofs.cells.fits.Goals as goal

-- a number of 64 bits fits 64 bits or more
wide : (bits value : ℕ) → 64 ≤ bits → value < 2 ^ 64 → leb 64 bits ≡ nat_lt value (2 ^ bits)
wide bits value enough fits =
    let more : 2 ^ 64 ≤ 2 ^ bits = pow_mono enough in
    grind (arith, nat_tests)

-- nothing is left of a quotient where the number is below the divisor
quotient : (value limit : ℕ) → 0 < limit → nat_eq (value / limit) 0 ≡ nat_lt value limit
quotient value limit positive =
    elim (eqb_tells (value / limit) 0) as (λ _. nat_eq (value / limit) 0 ≡ nat_lt value limit) [
      | inl w ↦
          let parts : value < value / limit * limit + limit = lt-div-mul-add positive in
          let none : value / limit * limit ≡ 0 = ap (λ q. q * limit) w.1 ∙ zero-mul limit in
          let below : value < limit = omega (arith, parts, none) in
          let is : nat_lt value limit ≡ true = grind (arith, nat_tests) in
          w.0 ∙ sym is
      | inr w ↦
          let above : (value < limit) → ⊥ = λ less. w.1 (div-eq_of_lt less) in
          let is : nat_lt value limit ≡ false = grind (arith, nat_tests) in
          w.0 ∙ sym is
    ]

pub returns-then-bits-ge64 : goal.returns-then-bits-ge64
returns-then-bits-ge64 c =
    wide _ _ c.if-bits-ge64.true c.ranges.value.fits
    ∙ ap (λ b. nat_lt c.args.value (2 ^ b)) c.width_bits-bits.ensures.value

pub returns-else-bits-ge64 : goal.returns-else-bits-ge64
returns-else-bits-ge64 c =
    quotient _ _ (pow_pos c.width_bits-bits.result)
    ∙ ap (λ b. nat_lt c.args.value (2 ^ b)) c.width_bits-bits.ensures.value
