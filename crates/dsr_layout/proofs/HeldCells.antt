-- The cell of an entry that a record has.
use Rattle.std.proofs.Common.{◌≡◌, ◌<◌, ◌≤◌, ◌+◌, ◌*◌, ◌%◌, ℕ, Bool, true, false, eqb, Some, None, refl, sym, ap, ◌∙◌, subst, inl, inr, arith}
use Rattle.std.specs.Prelude.{All, slice_get, MatchBool, IsSomeAnd, IsTrue}
use Rattle.std.specs.Option.{option_map_or, option_and_then}
use Rattle.std.proofs.lemmas.Nat.{mul-le}
use Rattle.dsr_ir.specs.Layouts.{pool_numbers, field_place}
use Rattle.dsr_ir.specs.declared.declarations.FieldRef.{FieldRef}
use Rattle.dsr_ir.specs.declared.declarations.Order.{Order}
use Rattle.dsr_ir.specs.declared.declarations.Width.{Width}
use Rattle.dsr_ir.specs.declared.declarations.Width.TheVariants.{U8, U16, U32, U64, Bits}
use Rattle.dsr_ir.specs.declared.layouts.FieldPlace.{FieldPlace}
use Rattle.dsr_ir.specs.declared.layouts.Layout.{Layout}
use Rattle.dsr_ir.specs.declared.tuples.Element.{Element}
use Rattle.dsr_meaning.specs.Cells.{record_start, width_bits, is_bytewise, IsFieldCell}
use Rattle.dsr_meaning.specs.Legal.{HasBits, HasEntry, IsLegalLayout, IsLegalPlace}
use Rattle.dsr_meaning.specs.Placeable.{IsLegalWidth}
use Rattle.dsr_layout.proofs.Meanings.{found_holds, legal_pool}

-- a slot lies in its pool
slot_within : (start slot count bytes bits : ℕ) → slot < count → bits ≤ 8 * bytes → 8 * (start + slot * bytes) + bits ≤ 8 * (start + count * bytes)
slot_within start slot count bytes bits below small =
    let next : (slot + 1) * bytes ≤ count * bytes = mul-le (slot + 1) bytes count bytes (omega arith) (omega arith) in
    omega (arith, next)

-- in a pool's slot
in_pool : (layout : Layout) (e : Element) (bits : ℕ) → IsLegalLayout layout → IsSomeAnd (pool_numbers layout e.pool) (λ n. (e.slot < n.count) × (bits ≤ 8 * n.slot)) → 8 * record_start layout e + bits ≤ 8 * layout.length
in_pool layout e bits legal has = elim (pool_numbers layout e.pool) as (λ o. pool_numbers layout e.pool ≡ o → IsSomeAnd o (λ n. (e.slot < n.count) × (bits ≤ 8 * n.slot)) → 8 * option_map_or (λ n. n.start + e.slot * n.slot) o 0 + bits ≤ 8 * layout.length) [
  | None ↦ λ _ h. absurd h
  | Some n ↦ λ is h.
      let p = legal_pool layout e.pool n legal is in
      let inside = slot_within n.start e.slot n.count n.slot bits h.0 h.1 in
      omega (arith, inside, p.within)
] refl has

-- a record's own bits lie in the image
pub bits_within : (layout : Layout) (e : Element) (bits : ℕ) → IsLegalLayout layout → HasBits layout e bits → 8 * record_start layout e + bits ≤ 8 * layout.length
bits_within layout e bits legal has = elim (eqb e.pool 0) as (λ b. eqb e.pool 0 ≡ b → MatchBool b (bits ≤ 8 * layout.length) (IsSomeAnd (pool_numbers layout e.pool) (λ n. (e.slot < n.count) × (bits ≤ 8 * n.slot))) → 8 * record_start layout e + bits ≤ 8 * layout.length) [
  | true ↦ λ head h.
      let none : pool_numbers layout e.pool ≡ None = rw head refl in
      let at : record_start layout e ≡ 0 = ap (λ o. option_map_or (λ n. n.start + e.slot * n.slot) o 0) none in
      omega (arith, h, at)
  | false ↦ λ _ h. in_pool layout e bits legal h
] refl has

-- the end of an entry
entry_end : (index bits width : ℕ) → bits ≡ width → index * bits + bits ≡ (index + 1) * width
entry_end index bits width e = rw e (omega arith)

-- the place of a declared field is a legal one
pub legal_place : (layout : Layout) (field : FieldRef) (place : FieldPlace) → IsLegalLayout layout → field_place layout field ≡ Some place → IsLegalPlace place
legal_place layout field place legal e = elim (slice_get layout.fields field.structure) as (λ o. slice_get layout.fields field.structure ≡ o → option_and_then (λ places. slice_get places field.field) o ≡ Some place → IsLegalPlace place) [
  | None ↦ λ _ h. absurd cc
  | Some places ↦ λ is h. found_holds IsLegalPlace places field.field place (found_holds (All IsLegalPlace) layout.fields field.structure places legal.fields is) h
] refl e

-- an entry lies in the image
pub entry_within : (layout : Layout) (e : Element) (field : FieldRef) (index : ℕ) (place : FieldPlace) (bits : ℕ) → IsLegalLayout layout → HasEntry layout e field index → field_place layout field ≡ Some place → bits ≡ width_bits place.width → 8 * record_start layout e + place.bit + index * bits + bits ≤ 8 * layout.length
entry_within layout e field index place bits legal has is width =
    let same : has.place ≡ place = (let both : Some has.place ≡ Some place = sym has.place_is ∙ is in cc) in
    let own = subst (λ p. HasBits layout e (p.bit + (index + 1) * width_bits p.width)) same has.within in
    let inside = bits_within layout e (place.bit + (index + 1) * width_bits place.width) legal own in
    let entry : index * bits + bits ≡ (index + 1) * width_bits place.width = entry_end index bits (width_bits place.width) width in
    omega (arith, inside, entry)

-- the cell is one that a field may have
cell_of_width : (w : Width) (start bit index : ℕ) (order : Order) → IsLegalWidth w → (IsTrue (is_bytewise w) → bit % 8 ≡ 0) → IsFieldCell (record { bit = 8 * start + bit + index * width_bits w; width = width_bits w; bytewise = is_bytewise w; order = order })
cell_of_width U8 start bit index order legal aligned = let at = aligned refl in (inl refl, omega (arith, at))
cell_of_width U16 start bit index order legal aligned = let at = aligned refl in (inr (inl refl), omega (arith, at))
cell_of_width U32 start bit index order legal aligned = let at = aligned refl in (inr (inr (inl refl)), omega (arith, at))
cell_of_width U64 start bit index order legal aligned = let at = aligned refl in (inr (inr (inr refl)), omega (arith, at))
cell_of_width (Bits n) start bit index order legal aligned = legal

-- the same by what the code has computed of the width
pub cell_form : (layout : Layout) (field : FieldRef) (place : FieldPlace) (start index bits : ℕ) (bytewise : Bool) (order : Order) → IsLegalLayout layout → field_place layout field ≡ Some place → bits ≡ width_bits place.width → bytewise ≡ is_bytewise place.width → IsFieldCell (record { bit = 8 * start + place.bit + index * bits; width = bits; bytewise = bytewise; order = order })
cell_form layout field place start index bits bytewise order legal is wide whole =
    let p = legal_place layout field place legal is in
    subst (λ b. IsFieldCell (record { bit = 8 * start + place.bit + index * b; width = b; bytewise = bytewise; order = order })) (sym wide)
    (subst (λ w. IsFieldCell (record { bit = 8 * start + place.bit + index * width_bits place.width; width = width_bits place.width; bytewise = w; order = order })) (sym whole)
    (cell_of_width place.width start place.bit index order p.width p.aligned))
