-- What a list of bytes holds after its part from a place on was written anew.
use Rattle.std.proofs.Common.{◌≡◌, ◌≤◌, ◌<◌, ◌+◌, ◌-◌, ◌*◌, ◌/◌, ◌%◌, ◌^◌, ℕ, zero, suc, List, ◌++◌, length, take, drop, slice_index, refl, sym, ap, ◌∙◌, arith, inl, inr}
use Rattle.std.proofs.lemmas.List.{append_assoc, drop_at, get_or-append_right, get_or-drop, get_or-take, get_or_append_left, length-take-le}
use Rattle.std.specs.Int.{bytes_high_first, bytes_low_first}
use borrow.Rule.Slice.PartMut.{put_mid}
use Rattle.byteorder.specs.Endian.{big_from, little_from}
use Rattle.byteorder.specs.Numbers.{big_number-reads_back, little_number-reads_back}
use Rattle.dsr_ir.specs.declared.declarations.Order.TheVariants.{Big, Little}
use Rattle.dsr_meaning.specs.Cells.{bytes_value}
use Rattle.dsr_meaning.specs.Writes.{OthersStay}

-- the number in the bytes from a place on is the number in what stands from there on, the lowest first
little_on : (n at i : ℕ) (bytes : List ℕ) → bytes_value Little bytes (at + i) n ≡ little_from i n (drop at bytes)
little_on zero at i bytes = refl
little_on (suc n) at i bytes =
    let next : at + i + 1 ≡ at + suc i = omega arith in
    rw (get_or-drop at bytes i 0, next, little_on n at (suc i) bytes) refl

-- the same, the highest first
big_on : (n at i : ℕ) (bytes : List ℕ) → bytes_value Big bytes (at + i) n ≡ big_from i n (drop at bytes)
big_on zero at i bytes = refl
big_on (suc n) at i bytes =
    let next : at + i + 1 ≡ at + suc i = omega arith in
    rw (get_or-drop at bytes i 0, next, big_on n at (suc i) bytes) refl

module _ (at k : ℕ) (old part : List ℕ) (within : at ≤ length old) where
  -- what stands from the place on stands_first with the part
  stands_first : (bytes rest : List ℕ) → part ≡ bytes ++ rest → drop at (put_mid at k old part) ≡ bytes ++ (rest ++ drop k (drop at old))
  stands_first bytes rest e =
      drop_at (take at old) (part ++ drop k (drop at old)) at (length-take-le at old within)
      ∙ ap (λ p. p ++ drop k (drop at old)) e ∙ append_assoc bytes rest (drop k (drop at old))

  -- a number that was written is read, the lowest byte first
  pub little_read : (n value : ℕ) (rest : List ℕ) → value < 256 ^ n → part ≡ bytes_low_first 0 n value ++ rest → bytes_value Little (put_mid at k old part) at n ≡ value
  little_read n value rest fits e =
      let here : at + 0 ≡ at = omega arith in
      ap (λ a. bytes_value Little (put_mid at k old part) a n) (sym here) ∙ little_on n at 0 (put_mid at k old part)
      ∙ ap (little_from 0 n) (stands_first (bytes_low_first 0 n value) rest e) ∙ little_number-reads_back n value (rest ++ drop k (drop at old)) fits

  -- the same, the highest byte first
  pub big_read : (n value : ℕ) (rest : List ℕ) → value < 256 ^ n → part ≡ bytes_high_first n value ++ rest → bytes_value Big (put_mid at k old part) at n ≡ value
  big_read n value rest fits e =
      let here : at + 0 ≡ at = omega arith in
      ap (λ a. bytes_value Big (put_mid at k old part) a n) (sym here) ∙ big_on n at 0 (put_mid at k old part)
      ∙ ap (big_from 0 n) (stands_first (bytes_high_first n value) rest e) ∙ big_number-reads_back n value (rest ++ drop k (drop at old)) fits

  -- a byte before the part stays
  before_stays : (i : ℕ) → i < at → slice_index (put_mid at k old part) i ≡ slice_index old i
  before_stays i lt =
      get_or_append_left (take at old) (part ++ drop k (drop at old)) 0 i (omega (arith, length-take-le at old within)) ∙ get_or-take at old i 0 lt

  -- a byte behind the part stays
  behind_stays : length part ≡ k → (i : ℕ) → at + k ≤ i → slice_index (put_mid at k old part) i ≡ slice_index old i
  behind_stays len i le =
      let place : at + (k + (i - at - k)) ≡ i = omega arith in
      get_or-append_right (take at old) (part ++ drop k (drop at old)) at i 0 (length-take-le at old within) (omega arith)
      ∙ get_or-append_right part (drop k (drop at old)) k (i - at) 0 len (omega arith)
      ∙ get_or-drop k (drop at old) (i - at - k) 0 ∙ get_or-drop at old (k + (i - at - k)) 0 ∙ ap (slice_index old) place

  -- a bit outside of the part stays
  pub others_stay : (width : ℕ) → length part ≡ k → width ≡ 8 * k → OthersStay (8 * at) width old (put_mid at k old part)
  others_stay width len e j (inl lt) = ap (λ b. b / 2 ^ (j % 8) % 2) (before_stays (j / 8) (omega arith))
  others_stay width len e j (inr ge) = ap (λ b. b / 2 ^ (j % 8) % 2) (behind_stays len (j / 8) (omega arith))
