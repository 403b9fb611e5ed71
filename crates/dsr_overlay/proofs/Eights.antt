-- Eight bytes into which a value is put.
use Rattle.std.proofs.Common.{◌≡◌, ◌≤◌, ◌<◌, ◌+◌, ◌*◌, ◌/◌, ◌%◌, ◌^◌, ℕ, zero, suc, List, [], ◌++◌, length, drop, inl, inr, refl, sym, ap, subst, ◌∙◌, arith}
use Rattle.std.proofs.lemmas.Bool.{cases_lt}
use Rattle.std.proofs.lemmas.List.{append-nil, drop_all, get_or_past, length-append, length-drop}
use Rattle.std.specs.Int.{bit_at, byte_at, bytes_low_first}
use Rattle.std.specs.Prelude.{slice_index}
use Rattle.byteorder.specs.Endian.{big_bytes, little_bytes, little_number}
use Rattle.byteorder.specs.Numbers.{length-bytes_high_first, length-bytes_low_first, little_number-reads_back}
use Rattle.dsr_image.proofs.Masks.{bit_inside, bit_outside, no_longer, with_value}
use Rattle.dsr_image.proofs.Placed.{big_read, little_read, others_stay}
use Rattle.dsr_image.proofs.Ranges.{bit_by_number, value_by_bits}
use Rattle.dsr_ir.specs.declared.declarations.Order.TheVariants.{Big, Little}
use Rattle.dsr_meaning.specs.Cells.{bit_of, bits_value, bytes_value}
use Rattle.dsr_meaning.specs.Writes.{AreBytes, OthersStay}

-- the bytes of a number are bytes
byte_small : (k x : ℕ) → byte_at k x < 256
byte_small zero x = let h : x % 256 < 256 = omega arith in h
byte_small (suc k) x = let h : x / 256 ^ suc k % 256 < 256 = omega arith in h

low_small : (i n x : ℕ) → AreBytes (bytes_low_first i n x)
low_small i zero x q = omega arith
low_small i (suc n) x zero = byte_small i x
low_small i (suc n) x (suc q) = low_small (suc i) n x q

-- eight bytes are written anew, with the value at some bits of their number
module _ (shift width value number : ℕ) (old new : List ℕ) (low : shift < 8) (few : width ≤ 32) (fits : value < 2 ^ width) (eight : length old ≡ 8) (was : AreBytes old)
    (small : number < 2 ^ 64) (read : number ≡ little_number 8 old) (written : new ≡ little_bytes 8 (with_value number value shift width) ++ drop 8 old) where
  pub changed_fits : with_value number value shift width < 256 ^ 8
  changed_fits = no_longer number value shift width (omega arith) (omega arith) fits 64 small (omega arith)

  reads : little_number 8 new ≡ with_value number value shift width
  reads = ap (little_number 8) written ∙ little_number-reads_back 8 (with_value number value shift width) (drop 8 old) changed_fits

  new_eight : length new ≡ 8
  new_eight =
      ap length written ∙ omega (arith, length-append (little_bytes 8 (with_value number value shift width)) (drop 8 old), length-bytes_low_first 0 8 (with_value number value shift width), length-drop 8 old)

  now : AreBytes new
  now q =
      let bytes = little_bytes 8 (with_value number value shift width) in
      let none : drop 8 old ≡ [] = drop_all 8 old (omega (arith, eight)) in
      let only : new ≡ bytes = written ∙ ap (λ r. bytes ++ r) none ∙ append-nil bytes in
      subst AreBytes (sym only) (low_small 0 8 (with_value number value shift width)) q

  bit_now : (i : ℕ) → i < 64 → bit_of new i ≡ bit_at (with_value number value shift width) i
  bit_now i lt =
      let here : i ≡ 8 * 0 + i = omega arith in
      ap (bit_of new) here ∙ bit_by_number 0 8 i new now (omega arith) ∙ ap (λ x. bit_at x i) reads

  bit_was : (i : ℕ) → i < 64 → bit_of old i ≡ bit_at number i
  bit_was i lt =
      let here : i ≡ 8 * 0 + i = omega arith in
      ap (bit_of old) here ∙ bit_by_number 0 8 i old was (omega arith) ∙ ap (λ x. bit_at x i) (sym read)

  pub bits_stand : bits_value new shift width ≡ value
  bits_stand = value_by_bits width shift value new fits (λ i lt. bit_now (shift + i) (omega arith) ∙ bit_inside number value shift width (omega arith) (omega arith) fits i lt)

  pub bits_stay : OthersStay shift width old new
  bits_stay j out = elim (cases_lt j 64) [
    | inl lt ↦ bit_now j lt ∙ bit_outside number value shift width (omega arith) (omega arith) fits j lt out ∙ sym (bit_was j lt)
    | inr ge ↦
        let none : slice_index new (j / 8) ≡ 0 = get_or_past new (j / 8) 0 (omega (arith, new_eight)) in
        let old_none : slice_index old (j / 8) ≡ 0 = get_or_past old (j / 8) 0 (omega (arith, eight)) in
        ap (λ b. b / 2 ^ (j % 8) % 2) (none ∙ sym old_none)
  ]

-- some bytes of a number are written before the others
module _ (count value : ℕ) (old new : List ℕ) (room : count ≤ length old) (fits : value < 256 ^ count) where
  pub little_stands : new ≡ little_bytes count value ++ drop count old → bytes_value Little new 0 count ≡ value
  little_stands written =
      ap (λ xs. bytes_value Little xs 0 count) written
      ∙ little_read 0 count old (little_bytes count value) (omega arith) count value [] fits (sym (append-nil (little_bytes count value)))

  pub big_stands : new ≡ big_bytes count value ++ drop count old → bytes_value Big new 0 count ≡ value
  big_stands written =
      ap (λ xs. bytes_value Big xs 0 count) written
      ∙ big_read 0 count old (big_bytes count value) (omega arith) count value [] fits (sym (append-nil (big_bytes count value)))

  pub little_others : new ≡ little_bytes count value ++ drop count old → OthersStay 0 (8 * count) old new
  little_others written j out =
      ap (λ xs. bit_of xs j) written ∙ others_stay 0 count old (little_bytes count value) (omega arith) (8 * count) (length-bytes_low_first 0 count value) refl j out

  pub big_others : new ≡ big_bytes count value ++ drop count old → OthersStay 0 (8 * count) old new
  big_others written j out =
      ap (λ xs. bit_of xs j) written ∙ others_stay 0 count old (big_bytes count value) (omega arith) (8 * count) (length-bytes_high_first count value) refl j out
