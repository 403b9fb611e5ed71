-- A cell has the value that it has in the bytes from the one on in which it begins.
use Rattle.std.proofs.Common.{◌≡◌, ◌≤◌, ◌<◌, ◌+◌, ◌*◌, ◌/◌, ◌%◌, ℕ, zero, suc, List, Bool, true, false, inl, inr, refl, sym, ap, ◌∙◌, arith}
use Rattle.std.proofs.lemmas.Bool.{cases_lt}
use Rattle.std.specs.Prelude.{slice_index, MatchBool, if◌then◌else◌}
use Rattle.dsr_image.specs.Images.{IsCellClaimed}
use Rattle.dsr_ir.specs.declared.declarations.Order.{Order}
use Rattle.dsr_ir.specs.declared.declarations.Order.TheVariants.{Little, Big}
use Rattle.dsr_ir.specs.declared.layouts.Cell.{Cell}
use Rattle.dsr_meaning.specs.Cells.{IsByteWidth, IsFieldCell, bit_of, bits_value, bytes_value, cell_value}
use Rattle.dsr_overlay.specs.Overlays.{at_front}

-- the part has the same n bytes as the whole from a byte on
module _ (whole part : List ℕ) (first n : ℕ) (same : (q : ℕ) → q < n → slice_index part q ≡ slice_index whole (first + q)) where
  -- a bit of the part
  pub bit_moved : (i : ℕ) → i < 8 * n → bit_of whole (8 * first + i) ≡ bit_of part i
  bit_moved i lt =
      let byte : (8 * first + i) / 8 ≡ first + i / 8 = omega arith in
      let rest : (8 * first + i) % 8 ≡ i % 8 = omega arith in
      let here : slice_index part (i / 8) ≡ slice_index whole (first + i / 8) = same (i / 8) (omega arith) in
      rw (byte, rest, here) refl

  bits_moved : (width bit : ℕ) → bit + width ≤ 8 * n → bits_value whole (8 * first + bit) width ≡ bits_value part bit width
  bits_moved zero bit le = refl
  bits_moved (suc width) bit le =
      let now : bit_of whole (8 * first + bit) ≡ bit_of part bit = bit_moved bit (omega arith) in
      let next : 8 * first + bit + 1 ≡ 8 * first + (bit + 1) = omega arith in
      rw (now, next, bits_moved width (bit + 1) (omega arith)) refl

  bytes_moved : (order : Order) (count at : ℕ) → at + count ≤ n → bytes_value order whole (first + at) count ≡ bytes_value order part at count
  bytes_moved order zero at le = refl
  bytes_moved Little (suc count) at le =
      let next : first + at + 1 ≡ first + (at + 1) = omega arith in
      let here : slice_index part at ≡ slice_index whole (first + at) = same at (omega arith) in
      rw (here, next, bytes_moved Little count (at + 1) (omega arith)) refl
  bytes_moved Big (suc count) at le =
      let next : first + at + 1 ≡ first + (at + 1) = omega arith in
      let here : slice_index part at ≡ slice_index whole (first + at) = same at (omega arith) in
      rw (here, next, bytes_moved Big count (at + 1) (omega arith)) refl

  formed : (bit width : ℕ) (order : Order) (bytewise : Bool) → bit / 8 ≡ first → bit % 8 + width ≤ 8 * n → MatchBool bytewise (IsByteWidth width × (bit % 8 ≡ 0)) ((1 ≤ width) × (width ≤ 32)) → (if bytewise then bytes_value order whole (bit / 8) (width / 8) else bits_value whole bit width) ≡ (if bytewise then bytes_value order part (bit % 8 / 8) (width / 8) else bits_value part (bit % 8) width)
  formed bit width order true e le form =
      let here : bit / 8 ≡ first + 0 = omega (arith, e) in
      let front : bit % 8 / 8 ≡ 0 = omega (arith, form.1) in
      rw (here, front) (bytes_moved order (width / 8) 0 (omega arith))
  formed bit width order false e le form =
      let here : bit ≡ 8 * first + bit % 8 = omega (arith, e) in
      ap (λ b. bits_value whole b width) here ∙ bits_moved width (bit % 8) le

  pub cell_moved : (cell : Cell) → cell.bit / 8 ≡ first → cell.bit % 8 + cell.width ≤ 8 * n → IsFieldCell cell → cell_value whole cell ≡ cell_value part (at_front cell)
  cell_moved cell e le form = formed cell.bit cell.width cell.order cell.bytewise e le form

-- a cell has a bit
wide : (width : ℕ) (bytewise : Bool) (bit : ℕ) → MatchBool bytewise (IsByteWidth width × (bit % 8 ≡ 0)) ((1 ≤ width) × (width ≤ 32)) → 1 ≤ width
wide width true bit form = elim form.0 [
  | inl e ↦ omega (arith, e)
  | inr (inl e) ↦ omega (arith, e)
  | inr (inr (inl e)) ↦ omega (arith, e)
  | inr (inr (inr e)) ↦ omega (arith, e)
]
wide width false bit form = form.0

-- each byte that has a bit of a claimed cell is claimed
pub cell_claimed : (claimed : ℕ → Bool) (cell : Cell) (count : ℕ) → IsFieldCell cell → IsCellClaimed claimed cell → 8 * count < cell.bit % 8 + cell.width + 8 → (i : ℕ) → cell.bit / 8 ≤ i → i < cell.bit / 8 + count → claimed i ≡ true
cell_claimed claimed cell count form all least i from lt =
    let some : 1 ≤ cell.width = wide cell.width cell.bytewise cell.bit form in
    elim (cases_lt (8 * i) cell.bit) [
      | inl inside ↦ let place : cell.bit / 8 ≡ i = omega arith in ap claimed (sym place) ∙ all cell.bit (omega arith) (omega arith)
      | inr behind ↦ let place : 8 * i / 8 ≡ i = omega arith in ap claimed (sym place) ∙ all (8 * i) behind (omega arith)
    ]
