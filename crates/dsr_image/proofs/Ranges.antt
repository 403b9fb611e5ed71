-- Bits of a list of bytes, and the numbers that they make.
use Rattle.std.proofs.Common.{◌≡◌, ◌≤◌, ◌<◌, ◌+◌, ◌-◌, ◌*◌, ◌/◌, ◌%◌, ◌^◌, ℕ, zero, suc, List, drop, inl, inr, refl, sym, ap, ◌∙◌, arith, get_or-drop, pow_pos}
use Rattle.std.proofs.Math.Nat.{mod-lt, pow-suc}
use Rattle.std.proofs.lemmas.Bool.{cases_lt}
use Rattle.std.proofs.lemmas.Nat.{shr-shr, shr_split}
use Rattle.std.proofs.lemmas.Nat.Bits.{bit_at_lowest, bit_at-suc, bit_at_cat_low, bit_at_cat_high}
use Rattle.std.specs.Int.{bit_at}
use Rattle.std.specs.Prelude.{slice_index}
use Rattle.byteorder.specs.Endian.{little_from, little_number}
use Rattle.dsr_meaning.specs.Cells.{bit_of, bits_value}

-- a bit of the number of some bytes is that bit of the bytes
bit_of_number : (n k i : ℕ) (xs : List ℕ) → ((q : ℕ) → slice_index xs q < 256) → i < 8 * n → bit_at (little_from k n xs) i ≡ bit_of xs (8 * k + i)
bit_of_number zero k i xs small inside = absurd (omega arith)
bit_of_number (suc n) k i xs small inside =
    let order : little_from k (suc n) xs ≡ little_from (suc k) n xs * 2 ^ 8 + slice_index xs k = omega arith in
    ap (λ x. bit_at x i) order ∙ elim (cases_lt i 8) [
      | inl low ↦
          let byte : (8 * k + i) / 8 ≡ k = omega arith in
          let bit : (8 * k + i) % 8 ≡ i = omega arith in
          bit_at_cat_low (little_from (suc k) n xs) 8 (slice_index xs k) i low ∙ rw (byte, bit) refl
      | inr high ↦
          let place : 8 * suc k + (i - 8) ≡ 8 * k + i = omega arith in
          bit_at_cat_high (little_from (suc k) n xs) 8 (slice_index xs k) i (small k) high
          ∙ bit_of_number n (suc k) (i - 8) xs small (omega arith) ∙ ap (bit_of xs) place
    ]

-- a bit of the bytes from one on
bit_of_drop : (first i : ℕ) (xs : List ℕ) → bit_of (drop first xs) i ≡ bit_of xs (8 * first + i)
bit_of_drop first i xs =
    let byte : (8 * first + i) / 8 ≡ first + i / 8 = omega arith in
    let bit : (8 * first + i) % 8 ≡ i % 8 = omega arith in
    rw (byte, bit) (ap (λ x. x / 2 ^ (i % 8) % 2) (get_or-drop first xs (i / 8) 0))

-- a bit of the bytes from one on is that bit of their number
pub bit_by_number : (first n i : ℕ) (xs : List ℕ) → ((q : ℕ) → slice_index xs q < 256) → i < 8 * n → bit_of xs (8 * first + i) ≡ bit_at (little_number n (drop first xs)) i
bit_by_number first n i xs small inside =
    let small_behind : (q : ℕ) → slice_index (drop first xs) q < 256 = λ q. rw (get_or-drop first xs q 0) (small (first + q)) in
    let place : 8 * 0 + i ≡ i = omega arith in
    sym (bit_of_number n 0 i (drop first xs) small_behind inside ∙ ap (bit_of (drop first xs)) place ∙ bit_of_drop first i xs)

-- the number whose bits stand in a range is the range's value
pub value_by_bits : (width bit v : ℕ) (xs : List ℕ) → v < 2 ^ width → ((i : ℕ) → i < width → bit_of xs (bit + i) ≡ bit_at v i) → bits_value xs bit width ≡ v
value_by_bits zero bit v xs fits same = omega arith
value_by_bits (suc width) bit v xs fits same =
    let here : bit + 0 ≡ bit = omega arith in
    let first : bit_of xs bit ≡ v % 2 = ap (bit_of xs) (sym here) ∙ same 0 (omega arith) ∙ bit_at_lowest v in
    let rest : bits_value xs (bit + 1) width ≡ v / 2 =
    value_by_bits width (bit + 1) (v / 2) xs (omega (arith, pow-suc 2 width))
    (λ i lt. let place : bit + 1 + i ≡ bit + suc i = omega arith in ap (bit_of xs) place ∙ same (suc i) (omega arith) ∙ bit_at-suc v i) in
    omega (arith, first, rest)

-- a bit of a number's part
bit_of_part : (n shift width i : ℕ) → i < width → bit_at n (shift + i) ≡ bit_at (n / 2 ^ shift % 2 ^ width) i
bit_of_part n shift width i lt =
    ap (λ x. x % 2) (sym (shr-shr n shift i)) ∙ ap (λ x. bit_at x i) (sym (shr_split (n / 2 ^ shift) width))
    ∙ bit_at_cat_low (n / 2 ^ shift / 2 ^ width) width (n / 2 ^ shift % 2 ^ width) i lt

-- a range's value is a part of the number of the bytes in which it stands
pub value_by_number : (bit width n : ℕ) (xs : List ℕ) → ((q : ℕ) → slice_index xs q < 256) → bit % 8 + width ≤ 8 * n → little_number n (drop (bit / 8) xs) / 2 ^ (bit % 8) % 2 ^ width ≡ bits_value xs bit width
value_by_number bit width n xs small inside =
    sym (value_by_bits width bit _ xs (mod-lt _ (pow_pos width)) (λ i lt.
    let place : bit + i ≡ 8 * (bit / 8) + (bit % 8 + i) = omega arith in
    ap (bit_of xs) place ∙ bit_by_number (bit / 8) n (bit % 8 + i) xs small (omega arith)
    ∙ bit_of_part (little_number n (drop (bit / 8) xs)) (bit % 8) width i lt))
