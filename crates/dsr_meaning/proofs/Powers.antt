-- Powers of 2 and of 256, by one step and within 64 bits.
use Rattle.std.proofs.Common.{◌≡◌, ◌≤◌, ◌<◌, ◌+◌, ◌-◌, ◌*◌, ◌^◌, ℕ, List, zero, suc, refl, sym, ap, ◌∙◌, arith}
use Rattle.std.proofs.Math.Pow.{pow_mono}
use Rattle.std.proofs.Math.Nat.{add-mul, le-mul_of_pos_right, mul-le-mul_left, mul_assoc, mul_comm, one-le-pow, pow-succ'}
use Rattle.std.specs.Prelude.{slice_index}
use Rattle.dsr_ir.specs.declared.declarations.Order.TheVariants.{Big}
use Rattle.dsr_meaning.specs.Cells.{bytes_value}

step : (b n : ℕ) → 0 < n → b ^ n ≡ b * b ^ (n - 1)
step b zero lt = absurd (omega arith)
step b (suc m) lt = let e : suc m - 1 ≡ m = omega arith in rw e (pow-succ' b m)

pub bit_step : (n : ℕ) → 0 < n → 2 ^ n ≡ 2 * 2 ^ (n - 1)
bit_step n lt = step 2 n lt

pub bit_limit : (n : ℕ) → n ≤ 64 → 2 ^ n ≤ 2 ^ 64
bit_limit n le = pow_mono le

pub byte_step : (n : ℕ) → 0 < n → 256 ^ n ≡ 256 * 256 ^ (n - 1)
byte_step n lt = step 256 n lt

above : (n k : ℕ) → 256 ^ n ≤ 256 ^ (k + n)
above n zero = let e : 0 + n ≡ n = omega arith in rw e (omega arith)
above n (suc k) = let e : suc k + n ≡ suc (k + n) = omega arith in rw (e, pow-succ' 256 (k + n)) (omega (arith, above n k))

pub byte_limit : (n : ℕ) → n ≤ 8 → 256 ^ n ≤ 2 ^ 64
byte_limit n le =
    let a = above n (8 - n) in
    let e : 8 - n + n ≡ 8 = omega arith in
    let top : 256 ^ (8 - n + n) ≡ 2 ^ 64 = ap (λ k. 256 ^ k) e in
    omega (arith, a, top)

-- a number of n bytes, the highest first, taken one byte at a time
module _ (before d n : ℕ) (some : 0 < n) (byte : d < 256) where
  shifted : before * 256 ^ n ≡ before * 256 * 256 ^ (n - 1)
  shifted = ap (λ p. before * p) (step 256 n some) ∙ sym (mul_assoc before 256 (256 ^ (n - 1)))

  low_part : d * 256 ^ (n - 1) ≤ 255 * 256 ^ (n - 1)
  low_part =
      let le : d ≤ 255 = omega arith in
      let left : 256 ^ (n - 1) * d ≤ 256 ^ (n - 1) * 255 = mul-le-mul_left (256 ^ (n - 1)) le in
      omega (arith, left, mul_comm (256 ^ (n - 1)) d)

  pub next_part : (before * 256 + d) * 256 ^ (n - 1) ≡ before * 256 ^ n + d * 256 ^ (n - 1)
  next_part = add-mul (before * 256) d (256 ^ (n - 1)) ∙ ap (λ x. x + d * 256 ^ (n - 1)) (sym shifted)

  pub next_small : before * 256 ^ n + 256 ^ n ≤ 2 ^ 64 → (before * 256 + d) * 256 ^ (n - 1) + 256 ^ (n - 1) ≤ 2 ^ 64
  next_small small = omega (arith, next_part, low_part, step 256 n some, small)

  pub room : before * 256 ^ n + 256 ^ n ≤ 2 ^ 64 → before * 256 + d < 2 ^ 64
  room small =
      let one : 1 ≤ 256 ^ (n - 1) = one-le-pow (n - 1) 256 (omega arith) in
      let wide : before * 256 ≤ before * 256 * 256 ^ (n - 1) = le-mul_of_pos_right (before * 256) (omega (arith, one)) in
      omega (arith, shifted, wide, step 256 n some, one, small)

pub big_value : (bytes : List ℕ) (at n : ℕ) → 0 < n → bytes_value Big bytes at n ≡ slice_index bytes at * 256 ^ (n - 1) + bytes_value Big bytes (at + 1) (n - 1)
big_value bytes at zero lt = absurd (omega arith)
big_value bytes at (suc m) lt = let e : suc m - 1 ≡ m = omega arith in rw e refl
