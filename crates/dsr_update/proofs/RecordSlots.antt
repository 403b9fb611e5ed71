-- The slot of a record: its bytes lie in the image, and cells of the record have no other bytes.
use Rattle.std.proofs.Common.{◌≡◌, ◌<◌, ◌≤◌, ◌+◌, ◌*◌, ◌/◌, ◌^◌, ◌∙◌, ℕ, Bool, true, false, nat_eq, Some, None, refl, sym, ap, subst, arith}
use Rattle.std.specs.Prelude.{IfSome, IsSomeAnd, MatchBool}
use Rattle.std.specs.Option.{option_map_or}
use Rattle.std.proofs.lemmas.Nat.{mul-le}
use Rattle.dsr_image.specs.Images.{AreClaimed, IsCellClaimed}
use Rattle.dsr_ir.specs.Layouts.{pool_numbers, field_place}
use Rattle.dsr_ir.specs.declared.declarations.FieldRef.{FieldRef}
use Rattle.dsr_ir.specs.declared.layouts.Cell.{Cell}
use Rattle.dsr_ir.specs.declared.layouts.Layout.{Layout}
use Rattle.dsr_ir.specs.declared.layouts.PoolNumbers.{PoolNumbers}
use Rattle.dsr_ir.specs.declared.tuples.Element.{Element}
use Rattle.dsr_layout.proofs.Meanings.{legal_pool}
use Rattle.dsr_meaning.specs.Cells.{cell_of, record_start, width_bits}
use Rattle.dsr_meaning.specs.Legal.{HasBits, HasEntry, IsLegalLayout}
use Rattle.dsr_step_theory.specs.Steps.{IsSlot}
use Rattle.dsr_layout_laws.proofs.Records.{entry_cell}
use Rattle.dsr_update.specs.Claims.{IsSlotClaimed}

-- the numbers of the record's pool
pub record InPool (layout : Layout) (e : Element) : Type 0 where
  pub numbers : PoolNumbers
  pub numbers_are : pool_numbers layout e.pool ≡ Some numbers
  pub below : e.slot < numbers.count

pub in_pool : (layout : Layout) (e : Element) → IsSlot layout e → InPool layout e
in_pool layout e slot = elim (pool_numbers layout e.pool) as (λ o. pool_numbers layout e.pool ≡ o → IsSomeAnd o (λ n. e.slot < n.count) → InPool layout e) [
  | None ↦ λ _ h. absurd h
  | Some n ↦ λ is h. record { numbers = n; numbers_are = is; below = h }
] refl slot

-- where the record's bytes begin
pub start_is : (layout : Layout) (e : Element) (n : PoolNumbers) → pool_numbers layout e.pool ≡ Some n → record_start layout e ≡ n.start + e.slot * n.slot
start_is layout e n is = ap (λ o. option_map_or (λ m. m.start + e.slot * m.slot) o 0) is

-- the slot of numbers that were found
pub slot_below : (layout : Layout) (e : Element) (n : PoolNumbers) → IsSlot layout e → pool_numbers layout e.pool ≡ Some n → e.slot < n.count
slot_below layout e n slot is = subst (λ o. IsSomeAnd o (λ m. e.slot < m.count)) is slot

-- a slot lies in the image
pub slot_within : (layout : Layout) (e : Element) (n : PoolNumbers) → IsLegalLayout layout → IsSlot layout e → pool_numbers layout e.pool ≡ Some n → n.start + e.slot * n.slot + n.slot ≤ layout.length
slot_within layout e n legal slot is =
    let below = slot_below layout e n slot is in
    let pool = legal_pool layout e.pool n legal is in
    let next : (e.slot + 1) * n.slot ≤ n.count * n.slot = mul-le (e.slot + 1) n.slot n.count n.slot (omega (arith, below)) (omega arith) in
    omega (arith, next, pool.within)

-- the bytes of numbers that were found are claimed
pub slot_claimed : (claimed : ℕ → Bool) (layout : Layout) (e : Element) (n : PoolNumbers) → IsSlotClaimed claimed layout e → pool_numbers layout e.pool ≡ Some n → AreClaimed claimed (n.start + e.slot * n.slot) n.slot
slot_claimed claimed layout e n of is =
    subst (λ at. AreClaimed claimed at n.slot) (start_is layout e n is)
    (subst (λ o. IfSome o (λ m. AreClaimed claimed (record_start layout e) m.slot)) is of)

-- a bit of the record is in its slot
bits_in_slot : (layout : Layout) (e : Element) (n : PoolNumbers) (bits : ℕ) → pool_numbers layout e.pool ≡ Some n → HasBits layout e bits → bits ≤ 8 * n.slot
bits_in_slot layout e n bits is has = elim (nat_eq e.pool 0) as (λ b. nat_eq e.pool 0 ≡ b → MatchBool b (bits ≤ 8 * layout.length) (IsSomeAnd (pool_numbers layout e.pool) (λ m. (e.slot < m.count) × (bits ≤ 8 * m.slot))) → bits ≤ 8 * n.slot) [
  | true ↦ λ head _.
      let none : pool_numbers layout e.pool ≡ None = rw head refl in
      let both : None ≡ Some n = sym none ∙ is in
      absurd cc
  | false ↦ λ _ h. (subst (λ o. IsSomeAnd o (λ m. (e.slot < m.count) × (bits ≤ 8 * m.slot))) is h).1
] refl has

-- the end of an entry
entry_end : (index width : ℕ) → index * width + width ≡ (index + 1) * width
entry_end index width = omega arith

-- each byte of an entry's cell is claimed where the record's slot is
pub entry_claimed : (claimed : ℕ → Bool) (layout : Layout) (e : Element) (field : FieldRef) (index : ℕ) (cell : Cell) → IsSlot layout e → IsSlotClaimed claimed layout e → HasEntry layout e field index → cell_of layout e field index ≡ Some cell → IsCellClaimed claimed cell
entry_claimed claimed layout e field index cell slot of has found j from before =
    let pool = in_pool layout e slot in
    let n = pool.numbers in
    let place = has.place in
    let within = bits_in_slot layout e n (place.bit + (index + 1) * width_bits place.width) pool.numbers_are has.within in
    let is = entry_cell layout e field index place cell has.place_is found in
    let start = start_is layout e n pool.numbers_are in
    let ended = entry_end index (width_bits place.width) in
    let at = n.start + e.slot * n.slot in
    let first : at ≤ j / 8 = omega (arith, from, is.0, start) in
    let last : j / 8 < at + n.slot = omega (arith, before, is.0, is.1, start, within, ended) in
    slot_claimed claimed layout e n of pool.numbers_are (j / 8) first last

-- the value fits the cell of an entry where it fits the field's place
pub value_fits : (layout : Layout) (e : Element) (field : FieldRef) (index value : ℕ) (cell : Cell) → HasEntry layout e field index → cell_of layout e field index ≡ Some cell → IfSome (field_place layout field) (λ place. value < 2 ^ width_bits place.width) → value < 2 ^ cell.width
value_fits layout e field index value cell has found fits =
    subst (λ w. value < 2 ^ w) (sym (entry_cell layout e field index has.place cell has.place_is found).1)
    (subst (λ o. IfSome o (λ place. value < 2 ^ width_bits place.width)) has.place_is fits)
