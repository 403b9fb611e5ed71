-- Cells of records that share no bit.
use Rattle.std.proofs.Common.{◌≡◌, ◌≢◌, ◌≤◌, ◌<◌, ◌+◌, ◌*◌, ℕ, true, false, nat_eq, Some, None, inl, inr, refl, sym, ap, ◌∙◌, subst, arith}
use Rattle.std.proofs.lemmas.Bool.Decides.{nat_tests}
use Rattle.std.specs.Option.{option_map, option_map_or}
use Rattle.std.proofs.lemmas.Option.{same_Some}
use Rattle.std.specs.Prelude.{IsSomeAnd, MatchBool}
use Rattle.dsr_layout_laws.specs.Entries.{IsEntry}
use Rattle.dsr_ir.specs.Layouts.{pool_numbers, field_place}
use Rattle.dsr_ir.specs.declared.declarations.FieldRef.{FieldRef}
use Rattle.dsr_ir.specs.declared.declarations.Width.{Width}
use Rattle.dsr_ir.specs.declared.declarations.Width.TheVariants.{U8, U16, U32, U64, Bits}
use Rattle.dsr_ir.specs.declared.layouts.Cell.{Cell}
use Rattle.dsr_ir.specs.declared.layouts.FieldPlace.{FieldPlace}
use Rattle.dsr_ir.specs.declared.layouts.Layout.{Layout}
use Rattle.dsr_ir.specs.declared.layouts.PoolNumbers.{PoolNumbers}
use Rattle.dsr_ir.specs.declared.tuples.Element.{Element}
use Rattle.dsr_meaning.specs.Cells.{cell_of, placed_cell, record_start, width_bits}
use Rattle.dsr_meaning.specs.Legal.{HasBits, IsLegalLayout}
use Rattle.dsr_meaning.specs.Placeable.{IsLegalWidth}
use Rattle.dsr_meaning.specs.Writes.{AreBitsApart, AreCellsApart}
use Rattle.dsr_layout_laws.proofs.Ranges.{pools_apart, slots_apart}
use Rattle.dsr_layout.proofs.HeldCells.{legal_place}

-- an entry has some bits
width_some : (width : Width) → IsLegalWidth width → 0 < width_bits width
width_some U8 legal = omega arith
width_some U16 legal = omega arith
width_some U32 legal = omega arith
width_some U64 legal = omega arith
width_some (Bits n) legal = omega (arith, legal.0)

-- the cell of an entry, by the entry's place
pub entry_cell : (layout : Layout) (e : Element) (field : FieldRef) (index : ℕ) (place : FieldPlace) (cell : Cell) → field_place layout field ≡ Some place → cell_of layout e field index ≡ Some cell → (cell.bit ≡ 8 * record_start layout e + place.bit + index * width_bits place.width) × (cell.width ≡ width_bits place.width)
entry_cell layout e field index place cell is found =
    let made = placed_cell layout.order (record_start layout e) index in
    let both : Some (made place) ≡ Some cell = ap (option_map made) (sym is) ∙ found in
    let same : cell ≡ made place = cc in
    (ap (λ c. c.bit) same, ap (λ c. c.width) same)

-- ranges that are those of two cells
pub carried : (c d : Cell) (a m b n : ℕ) → c.bit ≡ a → c.width ≡ m → d.bit ≡ b → d.width ≡ n → AreBitsApart a m b n → AreCellsApart c d
carried c d a m b n ca cm db dn (inl before) = inl (omega (arith, ca, cm, db, dn, before))
carried c d a m b n ca cm db dn (inr behind) = inr (omega (arith, ca, cm, db, dn, behind))

-- a slot of a pool that has so many bits
record IsSlot (layout : Layout) (e : Element) (bits : ℕ) : Type 0 where
  numbers : PoolNumbers
  numbers_are : pool_numbers layout e.pool ≡ Some numbers
  below : e.slot < numbers.count
  within : bits ≤ 8 * numbers.slot
  start : record_start layout e ≡ numbers.start + e.slot * numbers.slot

-- a record that isn't the head is a slot
in_slot : (layout : Layout) (e : Element) (bits : ℕ) → e.pool ≢ 0 → HasBits layout e bits → IsSlot layout e bits
in_slot layout e bits some has = elim (nat_eq e.pool 0) as (λ b. nat_eq e.pool 0 ≡ b → MatchBool b (bits ≤ 8 * layout.length) (IsSomeAnd (pool_numbers layout e.pool) (λ n. (e.slot < n.count) × (bits ≤ 8 * n.slot))) → IsSlot layout e bits) [
  | true ↦ λ head h. let zero : e.pool ≡ 0 = grind (arith, nat_tests) in absurd (some zero)
  | false ↦ λ _ h. elim (pool_numbers layout e.pool) as (λ o. pool_numbers layout e.pool ≡ o → IsSomeAnd o (λ n. (e.slot < n.count) × (bits ≤ 8 * n.slot)) → IsSlot layout e bits) [
    | None ↦ λ _ none. absurd none
    | Some n ↦ λ is in_it. record { numbers = n; numbers_are = is; below = in_it.0; within = in_it.1; start = ap (λ o. option_map_or (λ n. n.start + e.slot * n.slot) o 0) is }
  ] refl h
] refl has

-- an entry of a slot, by its first bit there and its width
record IsPart (layout : Layout) (e : Element) (cell : Cell) (first width : ℕ) : Type 0 where
  slot : IsSlot layout e (first + width)
  bit_is : cell.bit ≡ 8 * (slot.numbers.start + e.slot * slot.numbers.slot) + first
  width_is : cell.width ≡ width

module _ (layout : Layout) (e : Element) (field : FieldRef) (index : ℕ) (cell : Cell) (entry : IsEntry layout e field index cell) where
  abbrev place : FieldPlace
  place = entry.entry.place

  abbrev first : ℕ
  first = place.bit + index * width_bits place.width

  part : e.pool ≢ 0 → IsPart layout e cell first (width_bits place.width)
  part some =
      let is = entry_cell layout e field index place cell entry.entry.place_is entry.cell_is in
      let ended : place.bit + (index + 1) * width_bits place.width ≡ first + width_bits place.width = omega arith in
      let slot = in_slot layout e (first + width_bits place.width) some (subst (HasBits layout e) ended entry.entry.within) in
      record { slot = slot; bit_is = omega (arith, is.0, slot.start); width_is = is.1 }

  some_bits : IsLegalLayout layout → 0 < width_bits place.width
  some_bits legal = width_some place.width (legal_place layout field place legal entry.entry.place_is).width

-- cells of two slots of a pool
pub in_other_slots : (layout : Layout) (e f : Element) (a b : FieldRef) (i j : ℕ) (c d : Cell) → e.pool ≢ 0 → e.pool ≡ f.pool → e.slot ≢ f.slot → IsEntry layout e a i c → IsEntry layout f b j d → AreCellsApart c d
in_other_slots layout e f a b i j c d some same other one two =
    let p = part layout e a i c one some in
    let q = part layout f b j d two (λ none. some (same ∙ none)) in
    let numbers : q.slot.numbers ≡ p.slot.numbers =
    same_Some q.slot.numbers p.slot.numbers (sym q.slot.numbers_are ∙ (ap (pool_numbers layout) (sym same) ∙ p.slot.numbers_are)) in
    let v = width_bits one.entry.place.width in
    let w = width_bits two.entry.place.width in
    let k = one.entry.place.bit + i * v in
    let l = two.entry.place.bit + j * w in
    let n = p.slot.numbers in
    carried c d (8 * (n.start + e.slot * n.slot) + k) v (8 * (n.start + f.slot * n.slot) + l) w p.bit_is p.width_is
    (q.bit_is ∙ ap (λ m. 8 * (m.start + f.slot * m.slot) + l) numbers) q.width_is
    (slots_apart n e.slot f.slot k v l w other p.slot.within (subst (λ m. l + w ≤ 8 * m.slot) numbers q.slot.within))

-- cells of two pools
pub in_other_pools : (layout : Layout) → IsLegalLayout layout → (e f : Element) (a b : FieldRef) (i j : ℕ) (c d : Cell) → e.pool ≢ 0 → f.pool ≢ 0 → e.pool ≢ f.pool → IsEntry layout e a i c → IsEntry layout f b j d → AreCellsApart c d
in_other_pools layout legal e f a b i j c d some any other one two =
    let p = part layout e a i c one some in
    let q = part layout f b j d two any in
    let v = width_bits one.entry.place.width in
    let w = width_bits two.entry.place.width in
    let k = one.entry.place.bit + i * v in
    let l = two.entry.place.bit + j * w in
    let m = p.slot.numbers in
    let n = q.slot.numbers in
    carried c d (8 * (m.start + e.slot * m.slot) + k) v (8 * (n.start + f.slot * n.slot) + l) w p.bit_is p.width_is q.bit_is q.width_is
    (pools_apart m n e.slot f.slot k v l w (λ at. legal.apart e.pool f.pool at m n other p.slot.numbers_are q.slot.numbers_are)
    p.slot.below q.slot.below (some_bits layout e a i c one legal) (some_bits layout f b j d two legal) p.slot.within q.slot.within)
