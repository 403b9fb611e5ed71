-- A value that is put into a cell leaves one list of bytes.
use Rattle.std.proofs.Common.{◌≡◌, ◌≤◌, ◌<◌, ◌+◌, ◌*◌, ◌/◌, ◌%◌, ◌^◌, ℕ, zero, suc, List, Bool, true, false, length, inl, inr, refl, sym, ap, subst, ◌∙◌, arith}
use Rattle.std.proofs.Math.Nat.{pow-succ', mul-le-mul_right}
use Rattle.std.proofs.lemmas.Bool.{cases_lt}
use Rattle.std.proofs.lemmas.List.{ext_get_or}
use Rattle.std.specs.Prelude.{slice_index, MatchBool, if◌then◌else◌}
use Rattle.dsr_ir.specs.declared.declarations.Order.{Order}
use Rattle.dsr_ir.specs.declared.declarations.Order.TheVariants.{Little, Big}
use Rattle.dsr_ir.specs.declared.layouts.Cell.{Cell}
use Rattle.dsr_meaning.proofs.Values.{cell_stays, whole_width}
use Rattle.dsr_meaning.specs.Cells.{IsByteWidth, IsFieldCell, bit_of, bits_value, bytes_value}
use Rattle.dsr_meaning.specs.Writes.{AreBytes}
use Rattle.dsr_step_theory.specs.Puts.{IsPut}
use Rattle.dsr_step_theory.specs.Resets.{byte_cell}
use Rattle.dsr_update.proofs.ByteCells.{byte_value}

-- ---- numbers of digits

-- the leading digit
leading : (p s t x y : ℕ) → x < p → y < p → s * p + x ≡ t * p + y → s ≡ t
leading p s t x y small little same = elim (cases_lt s t) as (λ _. s ≡ t) [
  | inl less ↦
      let most : suc s * p ≤ t * p = mul-le-mul_right p (omega (arith, less)) in
      let one : suc s * p ≡ p + s * p = omega arith in
      absurd (omega (arith, small, same, most, one))
  | inr from ↦ elim (cases_lt t s) as (λ _. s ≡ t) [
    | inl more ↦
        let most : suc t * p ≤ s * p = mul-le-mul_right p (omega (arith, more)) in
        let one : suc t * p ≡ p + t * p = omega arith in
        absurd (omega (arith, little, same, most, one))
    | inr to ↦ omega (arith, from, to)
  ]
]

-- the bytes of a number are below the power that has as many
big_fits : (bytes : List ℕ) → AreBytes bytes → (count at : ℕ) → bytes_value Big bytes at count < 256 ^ count
big_fits bytes are zero at = omega arith
big_fits bytes are (suc count) at =
    let rest = big_fits bytes are count (at + 1) in
    let one : slice_index bytes at ≤ 255 = let lt = are at in omega (arith, lt) in
    let high : slice_index bytes at * 256 ^ count ≤ 255 * 256 ^ count = mul-le-mul_right (256 ^ count) one in
    let more : 256 ^ suc count ≡ 256 * 256 ^ count = pow-succ' 256 count in
    omega (arith, rest, high, more)

-- what is so of a place and of all behind it
at_or_behind : (P : ℕ → Type 0) (at j : ℕ) → at ≤ j → P at → (at + 1 ≤ j → P j) → P j
at_or_behind P at j from here behind = elim (cases_lt at j) as (λ _. P j) [
  | inl less ↦ behind (omega (arith, less))
  | inr to ↦ let same : at ≡ j = omega (arith, from, to) in subst P same here
]

module _ (a b : List ℕ) where
  bits_same :
      (width bit : ℕ) → bits_value a bit width ≡ bits_value b bit width
      → (j : ℕ) → bit ≤ j → j < bit + width → bit_of a j ≡ bit_of b j
  bits_same zero bit same j from before = absurd (omega (arith, from, before))
  bits_same (suc width) bit same j from before =
      let sum : bit_of a bit + 2 * bits_value a (bit + 1) width ≡ bit_of b bit + 2 * bits_value b (bit + 1) width = same in
      let one : bit_of a bit < 2 = omega arith in
      let other : bit_of b bit < 2 = omega arith in
      let first : bit_of a bit ≡ bit_of b bit = omega (arith, sum, one, other) in
      let rest : bits_value a (bit + 1) width ≡ bits_value b (bit + 1) width = omega (arith, sum, first) in
      at_or_behind (λ j. bit_of a j ≡ bit_of b j) bit j from first
      (λ behind. bits_same width (bit + 1) rest j behind (omega (arith, before)))

  module _ (small : AreBytes a) (little : AreBytes b) where
    bytes_same :
        (order : Order) (count at : ℕ) → bytes_value order a at count ≡ bytes_value order b at count
        → (q : ℕ) → at ≤ q → q < at + count → slice_index a q ≡ slice_index b q
    bytes_same order zero at same q from before = absurd (omega (arith, from, before))
    bytes_same Little (suc count) at same q from before =
        let sum : slice_index a at + 256 * bytes_value Little a (at + 1) count ≡ slice_index b at + 256 * bytes_value Little b (at + 1) count = same in
        let one = small at in
        let other = little at in
        let first : slice_index a at ≡ slice_index b at = omega (arith, sum, one, other) in
        let rest : bytes_value Little a (at + 1) count ≡ bytes_value Little b (at + 1) count = omega (arith, sum, first) in
        at_or_behind (λ q. slice_index a q ≡ slice_index b q) at q from first
        (λ behind. bytes_same Little count (at + 1) rest q behind (omega (arith, before)))
    bytes_same Big (suc count) at same q from before =
        let sum : slice_index a at * 256 ^ count + bytes_value Big a (at + 1) count ≡ slice_index b at * 256 ^ count + bytes_value Big b (at + 1) count = same in
        let first = leading (256 ^ count) (slice_index a at) (slice_index b at) (bytes_value Big a (at + 1) count) (bytes_value Big b (at + 1) count)
        (big_fits a small count (at + 1)) (big_fits b little count (at + 1)) sum in
        let high : slice_index a at * 256 ^ count ≡ slice_index b at * 256 ^ count = ap (λ n. n * 256 ^ count) first in
        let rest : bytes_value Big a (at + 1) count ≡ bytes_value Big b (at + 1) count = omega (arith, sum, high) in
        at_or_behind (λ q. slice_index a q ≡ slice_index b q) at q from first
        (λ behind. bytes_same Big count (at + 1) rest q behind (omega (arith, before)))

    -- the value of a field's cell tells its bits
    pub bits_told :
        (bit width : ℕ) (order : Order) (bytewise : Bool) → MatchBool bytewise (IsByteWidth width × (bit % 8 ≡ 0)) ((1 ≤ width) × (width ≤ 32))
        → (if bytewise then bytes_value order a (bit / 8) (width / 8) else bits_value a bit width)
        ≡ (if bytewise then bytes_value order b (bit / 8) (width / 8) else bits_value b bit width)
        → (j : ℕ) → bit ≤ j → j < bit + width → bit_of a j ≡ bit_of b j
    bits_told bit width order true form same j from before =
        let whole : 8 * (width / 8) ≡ width = whole_width width form.0 in
        let begins = form.1 in
        ap (λ byte. byte / 2 ^ (j % 8) % 2)
        (bytes_same order (width / 8) (bit / 8) same (j / 8) (omega (arith, from)) (omega (arith, before, whole, begins)))
    bits_told bit width order false form same j from before = bits_same width bit same j from before

    -- lists of bytes with the same bits are one
    pub bytes_are_one : length a ≡ length b → ((j : ℕ) → bit_of a j ≡ bit_of b j) → a ≡ b
    bytes_are_one long same =
        ext_get_or 0 a b long (λ i below.
        sym (byte_value a i) ∙ (cell_stays b a little small (byte_cell i) (inl refl, omega arith) (λ j from before. same j) ∙ byte_value b i))

pub put_once : (cell : Cell) (value : ℕ) (old a b : List ℕ) → IsFieldCell cell → IsPut cell value old a → IsPut cell value old b → a ≡ b
put_once cell value old a b form one two =
    bytes_are_one a b one.bytes two.bytes (one.puts.length ∙ sym two.puts.length)
    (λ j. elim (cases_lt j cell.bit) as (λ _. bit_of a j ≡ bit_of b j) [
      | inl before ↦ one.puts.others j (inl before) ∙ sym (two.puts.others j (inl before))
      | inr from ↦ elim (cases_lt j (cell.bit + cell.width)) as (λ _. bit_of a j ≡ bit_of b j) [
        | inl within ↦
            bits_told a b one.bytes two.bytes cell.bit cell.width cell.order cell.bytewise form (one.puts.got ∙ sym two.puts.got) j from within
        | inr behind ↦ one.puts.others j (inr behind) ∙ sym (two.puts.others j (inr behind))
      ]
    ])
