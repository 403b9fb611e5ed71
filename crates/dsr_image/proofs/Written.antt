-- The bits of a list of bytes in which the bytes of a number were written.
use Rattle.std.proofs.Common.{◌≡◌, ◌⊎◌, ◌≤◌, ◌<◌, ◌+◌, ◌-◌, ◌*◌, ◌/◌, ◌%◌, ◌^◌, ℕ, List, [], ◌++◌, length, take, drop, get_or, inl, inr, sym, ap, ◌∙◌, arith, get_or-drop, get_or-take, length-take-le, drop_at, le_refl}
use Rattle.std.proofs.lemmas.Bool.{cases_lt}
use Rattle.std.proofs.lemmas.List.{append-nil, drop_all, length-take}
use Rattle.std.proofs.lemmas.Slice.{between_to_end, drop-put_mid, take-put_mid_below}
use Rattle.std.specs.Int.{bit_at}
use Rattle.std.specs.Prelude.{slice_index}
use borrow.Rule.Slice.PartMut.{put_mid}
use Rattle.byteorder.proofs.Bytes.{pow256}
use Rattle.byteorder.specs.Endian.{little_bytes, little_number}
use Rattle.byteorder.specs.Numbers.{length-bytes_low_first, little_from-lt, little_number-reads_back}
use Rattle.dsr_meaning.specs.Cells.{bit_of, bits_value}
use Rattle.dsr_meaning.specs.Writes.{OthersStay}
use Rattle.dsr_image.proofs.Masks.{bit_inside, bit_outside, no_longer, with_value}
use Rattle.dsr_image.proofs.Ranges.{bit_by_number, value_by_bits}

-- what `&mut xs[a..b]` leaves in xs where it holds ys at the end
abbrev pub put_between : ℕ → ℕ → List ℕ → List ℕ → List ℕ
put_between a b xs ys = put_mid a (b - a) xs ys

-- n bytes of a number were written from a byte on
module _ (first n number : ℕ) (xs ys : List ℕ) (inside : first + n ≤ length xs) (written : ys ≡ little_bytes n number ++ drop n (take (first + n - first) (drop first xs))) where
  abbrev now : List ℕ
  now = put_between first (first + n) xs ys

  -- nothing else was written
  whole : ys ≡ little_bytes n number
  whole =
      let none : drop n (take (first + n - first) (drop first xs)) ≡ [] = drop_all n _ (omega (arith, length-take (first + n - first) (drop first xs))) in
      written ∙ ap (λ zs. little_bytes n number ++ zs) none ∙ append-nil (little_bytes n number)

  -- the bytes elsewhere are the old ones
  byte_elsewhere : (i : ℕ) → (i < first) ⊎ (first + n ≤ i) → slice_index now i ≡ slice_index xs i
  byte_elsewhere i (inl low) =
      sym (get_or-take first now i 0 low) ∙ ap (λ zs. get_or zs i 0) (take-put_mid_below first (first + n - first) xs ys first (omega arith) (omega arith))
      ∙ get_or-take first xs i 0 low
  byte_elsewhere i (inr high) =
      let back : first + n + (i - (first + n)) ≡ i = omega arith in
      let as_many : length ys ≡ first + n - first = omega (arith, ap length whole, length-bytes_low_first 0 n number) in
      let rest : drop (first + n) now ≡ drop (first + n) xs = drop-put_mid first (first + n - first) xs ys (first + n) (omega arith) (omega arith) as_many in
      ap (slice_index now) (sym back) ∙ sym (get_or-drop (first + n) now (i - (first + n)) 0) ∙ ap (λ zs. get_or zs (i - (first + n)) 0) rest
      ∙ get_or-drop (first + n) xs (i - (first + n)) 0 ∙ ap (slice_index xs) back

  -- so are the bits
  pub bit_elsewhere : (j : ℕ) → (j < 8 * first) ⊎ (8 * (first + n) ≤ j) → bit_of now j ≡ bit_of xs j
  bit_elsewhere j (inl low) = ap (λ b. b / 2 ^ (j % 8) % 2) (byte_elsewhere (j / 8) (inl (omega arith)))
  bit_elsewhere j (inr high) = ap (λ b. b / 2 ^ (j % 8) % 2) (byte_elsewhere (j / 8) (inr (omega arith)))

  -- the bits of the written bytes are those of the number
  pub bit_here : number < 256 ^ n → ((q : ℕ) → slice_index now q < 256) → (i : ℕ) → i < 8 * n → bit_of now (8 * first + i) ≡ bit_at number i
  bit_here fits small i lt =
      let rest = drop (first + n - first) (drop first xs) in
      let behind : drop first now ≡ ys ++ rest = drop_at (take first xs) (ys ++ rest) first (length-take-le first xs (omega arith)) in
      let reads : little_number n (drop first now) ≡ number =
      ap (little_number n) behind ∙ ap (λ zs. little_number n (zs ++ rest)) whole ∙ little_number-reads_back n number rest fits in
      bit_by_number first n i now small lt ∙ ap (λ x. bit_at x i) reads

-- a value was written into the range of bits, by n bytes from the range's first
module _ (bit width value n number : ℕ) (xs : List ℕ) (few : width ≤ 32) (within : bit + width ≤ 8 * length xs) (fits : value < 2 ^ width)
    (enough : bit % 8 + width ≤ 8 * n) (most : n ≤ 8) (inside : bit / 8 + n ≤ length xs) (small : (q : ℕ) → slice_index xs q < 256) (read : number ≡ little_number n (take (length xs - bit / 8) (drop (bit / 8) xs))) where
  abbrev changed : ℕ
  changed = with_value number value (bit % 8) width

  number_is : number ≡ little_number n (drop (bit / 8) xs)
  number_is = read ∙ ap (little_number n) (between_to_end xs (bit / 8) (length xs) (le_refl (length xs)))

  -- the changed number has as many bytes as the number
  pub changed_fits : changed < 256 ^ n
  changed_fits =
      let small_behind : (q : ℕ) → slice_index (drop (bit / 8) xs) q < 256 = λ q. rw (get_or-drop (bit / 8) xs q 0) (small (bit / 8 + q)) in
      let number_fits : number < 2 ^ (8 * n) = rw (number_is, sym (pow256 n)) (little_from-lt 0 n (drop (bit / 8) xs) small_behind) in
      rw (pow256 n) (no_longer number value (bit % 8) width (omega arith) (omega arith) fits (8 * n) number_fits (omega arith))

  module _ (ys : List ℕ) (written : ys ≡ little_bytes n changed ++ drop n (take (bit / 8 + n - bit / 8) (drop (bit / 8) xs)))
      (small_now : (q : ℕ) → slice_index (put_between (bit / 8) (bit / 8 + n) xs ys) q < 256) where
    abbrev all : List ℕ
    all = put_between (bit / 8) (bit / 8 + n) xs ys

    -- the range has the value
    pub value_stands : bits_value all bit width ≡ value
    value_stands = value_by_bits width bit value all fits (λ i lt.
        let place : bit + i ≡ 8 * (bit / 8) + (bit % 8 + i) = omega arith in
        ap (bit_of all) place ∙ bit_here (bit / 8) n changed xs ys (omega arith) written changed_fits small_now (bit % 8 + i) (omega arith)
        ∙ bit_inside number value (bit % 8) width (omega arith) (omega arith) fits i lt)

    -- every other bit stays
    pub others_stay : OthersStay bit width xs all
    others_stay j out = elim (cases_lt j (8 * (bit / 8))) [
      | inl below ↦ bit_elsewhere (bit / 8) n changed xs ys (omega arith) written j (inl below)
      | inr from ↦ elim (cases_lt j (8 * (bit / 8 + n))) [
        | inr above ↦ bit_elsewhere (bit / 8) n changed xs ys (omega arith) written j (inr above)
        | inl lt ↦
            let i = j - 8 * (bit / 8) in
            let place : j ≡ 8 * (bit / 8) + i = omega arith in
            let apart : (i < bit % 8) ⊎ (bit % 8 + width ≤ i) = elim out [ inl a ↦ inl (omega arith) | inr b ↦ inr (omega arith) ] in
            ap (bit_of all) place ∙ bit_here (bit / 8) n changed xs ys (omega arith) written changed_fits small_now i (omega arith)
            ∙ bit_outside number value (bit % 8) width (omega arith) (omega arith) fits i (omega arith) apart
            ∙ ap (λ x. bit_at x i) number_is ∙ sym (bit_by_number (bit / 8) n i xs small (omega arith)) ∙ ap (bit_of xs) (sym place)
      ]
    ]
