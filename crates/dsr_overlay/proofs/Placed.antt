-- A value is put into a cell by writing the bytes from the one on in which it begins.
use Rattle.std.proofs.Common.{◌≡◌, ◌⊎◌, ◌≤◌, ◌<◌, ◌+◌, ◌-◌, ◌*◌, ◌/◌, ◌%◌, ℕ, List, ◌++◌, length, take, drop, get_or, inl, inr, refl, sym, ap, subst, ◌∙◌, arith}
use Rattle.std.proofs.lemmas.Bool.{cases_lt}
use Rattle.std.proofs.lemmas.List.{get_or_append_left, get_or-append_right, get_or-take, length-append, length-drop, length-take, length-take-le}
use Rattle.std.specs.Prelude.{slice_index}
use borrow.Rule.Slice.PartMut.{put_mid}
use Rattle.dsr_image.proofs.Placed.{others_stay}
use Rattle.dsr_ir.specs.declared.layouts.Cell.{Cell}
use Rattle.dsr_meaning.specs.Cells.{IsFieldCell, bit_of}
use Rattle.dsr_meaning.specs.Writes.{OthersStay, Puts}
use Rattle.dsr_overlay.specs.Overlays.{at_front}
use Rattle.dsr_overlay.proofs.Moved.{bit_moved, cell_moved}

-- the first n bytes of the part, which are as long as the part was, stand in the new bytes from one on
module _ (old was part : List ℕ) (first n : ℕ) (within : first + n ≤ length old) (room : n ≤ length part) (same : (q : ℕ) → q < n → slice_index was q ≡ slice_index old (first + q)) where
  long : length (take n part) ≡ n
  long = length-take-le n part room

  new_length : length (put_mid first n old (take n part)) ≡ length old
  new_length =
      omega (arith, long, length-append (take first old) (take n part ++ drop n (drop first old)), length-append (take n part) (drop n (drop first old)), length-take first old, length-drop n (drop first old), length-drop first old)

  -- the bytes of the part stand there
  stands : (q : ℕ) → q < n → slice_index part q ≡ slice_index (put_mid first n old (take n part)) (first + q)
  stands q lt =
      let rest = drop n (drop first old) in
      let place : first + q - first ≡ q = omega arith in
      sym (get_or-append_right (take first old) (take n part ++ rest) first (first + q) 0 (length-take-le first old (omega arith)) (omega arith)
      ∙ ap (λ k. get_or (take n part ++ rest) k 0) place
      ∙ get_or_append_left (take n part) rest 0 q (omega (arith, long)) ∙ get_or-take n part q 0 lt)

  module _ (cell : Cell) (value : ℕ) (start : cell.bit / 8 ≡ first) (enough : cell.bit % 8 + cell.width ≤ 8 * n) (form : IsFieldCell cell) (put : Puts (at_front cell) value was part) where
    others : OthersStay cell.bit cell.width old (put_mid first n old (take n part))
    others j out = elim (cases_lt j (8 * first)) [
      | inl before ↦ others_stay first n old (take n part) (omega arith) (8 * n) long refl j (inl before)
      | inr from ↦ elim (cases_lt j (8 * first + 8 * n)) [
        | inr behind ↦ others_stay first n old (take n part) (omega arith) (8 * n) long refl j (inr behind)
        | inl lt ↦
            let i = j - 8 * first in
            let place : j ≡ 8 * first + i = omega arith in
            let apart : (i < cell.bit % 8) ⊎ (cell.bit % 8 + cell.width ≤ i) = elim out [ inl a ↦ inl (omega (arith, start)) | inr b ↦ inr (omega (arith, start)) ] in
            ap (bit_of (put_mid first n old (take n part))) place ∙ bit_moved (put_mid first n old (take n part)) part first n stands i (omega arith)
            ∙ put.others i apart ∙ sym (bit_moved old was first n same i (omega arith)) ∙ ap (bit_of old) (sym place)
      ]
    ]

    placed : Puts cell value old (put_mid first n old (take n part))
    placed = record {
      got = cell_moved (put_mid first n old (take n part)) part first n stands cell start enough form ∙ put.got;
      others = others;
      length = new_length;
    }

    pub placed_by : (now : List ℕ) → now ≡ put_mid first (length (take n part)) old (take n part) → Puts cell value old now
    placed_by now e =
        let P : List ℕ → Type 0 = λ xs. Puts cell value old xs in
        subst P (sym (e ∙ ap (λ k. put_mid first k old (take n part)) long)) placed
