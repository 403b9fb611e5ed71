-- Cells whose bits stay keep their values.
use Rattle.std.proofs.Common.{◌≡◌, ◌≤◌, ◌<◌, ◌+◌, ◌*◌, ◌/◌, ◌%◌, ◌^◌, ℕ, zero, suc, List, Bool, true, false, inl, inr, refl, sym, ◌∙◌, arith}
use Rattle.std.proofs.Math.Nat.{pow-suc}
use Rattle.std.proofs.lemmas.Nat.Bits.{bit_at_lowest, bit_at-suc}
use Rattle.std.specs.Int.{bit_at}
use Rattle.std.specs.Prelude.{slice_index, MatchBool, if◌then◌else◌}
use Rattle.dsr_meaning.specs.Writes.{AreBitsApart, AreBytes, AreCellsApart, OthersStay, Puts}
use Rattle.dsr_meaning.specs.Cells.{IsByteWidth, IsFieldCell, bit_of, bits_value, bytes_value, cell_value}
use Rattle.dsr_ir.specs.declared.layouts.Cell.{Cell}
use Rattle.dsr_ir.specs.declared.declarations.Order.{Order}
use Rattle.dsr_ir.specs.declared.declarations.Order.TheVariants.{Little, Big}

-- numbers below a power of two are equal where their bits are
by_bits : (k a b : ℕ) → a < 2 ^ k → b < 2 ^ k → ((i : ℕ) → i < k → bit_at a i ≡ bit_at b i) → a ≡ b
by_bits zero a b small little same = omega arith
by_bits (suc k) a b small little same =
    let lowest : a % 2 ≡ b % 2 = sym (bit_at_lowest a) ∙ same 0 (omega arith) ∙ bit_at_lowest b in
    let rest : a / 2 ≡ b / 2 =
    by_bits k (a / 2) (b / 2) (omega (arith, pow-suc 2 k)) (omega (arith, pow-suc 2 k))
    (λ i lt. sym (bit_at-suc a i) ∙ same (suc i) (omega arith) ∙ bit_at-suc b i) in
    omega (arith, lowest, rest)

-- a bit of a byte is one of the bytes
place : (bytes : List ℕ) (q i : ℕ) → (8 * q + i) / 8 ≡ q → (8 * q + i) % 8 ≡ i → bit_at (slice_index bytes q) i ≡ bit_of bytes (8 * q + i)
place bytes q i byte bit = rw (byte, bit) refl

-- such a width is one of whole bytes
pub whole_width : (width : ℕ) → IsByteWidth width → 8 * (width / 8) ≡ width
whole_width width (inl e) = omega (arith, e)
whole_width width (inr (inl e)) = omega (arith, e)
whole_width width (inr (inr (inl e))) = omega (arith, e)
whole_width width (inr (inr (inr e))) = omega (arith, e)

module _ (old new : List ℕ) where
  -- a range of bits that stay has the value that it had
  bits_stay : (width bit : ℕ) → ((j : ℕ) → bit ≤ j → j < bit + width → bit_of new j ≡ bit_of old j) → bits_value new bit width ≡ bits_value old bit width
  bits_stay zero bit same = refl
  bits_stay (suc width) bit same =
      let first : bit_of new bit ≡ bit_of old bit = same bit (omega arith) (omega arith) in
      let rest : bits_value new (bit + 1) width ≡ bits_value old (bit + 1) width = bits_stay width (bit + 1) (λ j from lt. same j (omega arith) (omega arith)) in
      rw (first, rest) refl

  -- so have bytes
  bytes_stay : (order : Order) (count at : ℕ) → ((q : ℕ) → at ≤ q → q < at + count → slice_index new q ≡ slice_index old q) → bytes_value order new at count ≡ bytes_value order old at count
  bytes_stay order zero at same = refl
  bytes_stay Little (suc count) at same =
      rw (same at (omega arith) (omega arith), bytes_stay Little count (at + 1) (λ q from lt. same q (omega arith) (omega arith))) refl
  bytes_stay Big (suc count) at same =
      rw (same at (omega arith) (omega arith), bytes_stay Big count (at + 1) (λ q from lt. same q (omega arith) (omega arith))) refl

  -- a byte whose bits stay stays
  byte_stays : AreBytes old → AreBytes new → (q : ℕ) → ((j : ℕ) → 8 * q ≤ j → j < 8 * q + 8 → bit_of new j ≡ bit_of old j) → slice_index new q ≡ slice_index old q
  byte_stays small little q same =
      by_bits 8 (slice_index new q) (slice_index old q) (little q) (small q) (λ i lt.
      let byte : (8 * q + i) / 8 ≡ q = omega arith in
      let bit : (8 * q + i) % 8 ≡ i = omega arith in
      let kept : bit_of new (8 * q + i) ≡ bit_of old (8 * q + i) = same (8 * q + i) (omega arith) (omega arith) in
      place new q i byte bit ∙ kept ∙ sym (place old q i byte bit))

  -- a range whose bits stay has the value that it had, by bytes or by bits
  as_formed : AreBytes old → AreBytes new → (bit width : ℕ) (order : Order) (bytewise : Bool) → MatchBool bytewise (IsByteWidth width × (bit % 8 ≡ 0)) ((1 ≤ width) × (width ≤ 32)) → ((j : ℕ) → bit ≤ j → j < bit + width → bit_of new j ≡ bit_of old j) → (if bytewise then bytes_value order new (bit / 8) (width / 8) else bits_value new bit width) ≡ (if bytewise then bytes_value order old (bit / 8) (width / 8) else bits_value old bit width)
  as_formed small little bit width order true form same =
      let whole : 8 * (width / 8) ≡ width = whole_width width form.0 in
      bytes_stay order (width / 8) (bit / 8) (λ q from lt. byte_stays small little q (λ j low high. same j (omega (arith, form.1)) (omega (arith, whole, form.1))))
  as_formed small little bit width order false form same = bits_stay width bit same

  -- a cell whose bits stay keeps its value
  pub cell_stays : AreBytes old → AreBytes new → (cell : Cell) → IsFieldCell cell → ((j : ℕ) → cell.bit ≤ j → j < cell.bit + cell.width → bit_of new j ≡ bit_of old j) → cell_value new cell ≡ cell_value old cell
  cell_stays small little cell = as_formed small little cell.bit cell.width cell.order cell.bytewise

  -- so does one that shares none with a range outside of which all stay
  pub elsewhere : (cell : Cell) (bit width : ℕ) → AreBytes old → AreBytes new → IsFieldCell cell → OthersStay bit width old new → AreBitsApart cell.bit cell.width bit width → cell_value new cell ≡ cell_value old cell
  elsewhere cell bit width small little form stay (inl before) = cell_stays small little cell form (λ j from lt. stay j (inl (omega arith)))
  elsewhere cell bit width small little form stay (inr behind) = cell_stays small little cell form (λ j from lt. stay j (inr (omega arith)))

-- a cell that shares no bit with one that was put keeps its value
pub beside : (old new : List ℕ) (a b : Cell) (w : ℕ) → Puts b w old new → IsFieldCell a → AreCellsApart a b → AreBytes old → AreBytes new → cell_value new a ≡ cell_value old a
beside old new a b w put form apart small little = elsewhere old new a b.bit b.width small little form put.others apart
