-- What lies in the head shares no bit with what lies in a slot of a pool.
use Rattle.std.proofs.Common.{◌≡◌, ◌≢◌, ◌<◌, ◌≤◌, ◌+◌, ◌*◌, ◌/◌, ◌%◌, ℕ, true, false, nat_eq, List, None, Some, IfSome, option_map, inl, inr, refl, sym, subst, arith}
use Rattle.std.specs.Prelude.{IsSomeAnd, MatchBool}
use Rattle.std.proofs.lemmas.Bool.{cases_lt}
use Rattle.std.proofs.lemmas.Bool.Decides.{nat_tests}
use Rattle.dsr_layout_laws.proofs.Ranges.{row_step}
use Rattle.dsr_layout_laws.proofs.Records.{entry_cell}
use Rattle.dsr_layout_laws.specs.Entries.{IsEntry}
use Rattle.dsr_ir.specs.Layouts.{pool_numbers}
use Rattle.dsr_ir.specs.declared.declarations.FieldRef.{FieldRef}
use Rattle.dsr_ir.specs.declared.declarations.Spec.{Spec}
use Rattle.dsr_ir.specs.declared.layouts.Cell.{Cell}
use Rattle.dsr_ir.specs.declared.layouts.Layout.{Layout}
use Rattle.dsr_ir.specs.declared.layouts.PoolNumbers.{PoolNumbers}
use Rattle.dsr_ir.specs.declared.tuples.Element.{Element}
use Rattle.dsr_layout.proofs.Enclosed.{sized_end}
use Rattle.dsr_layout.proofs.Fitting.{head_apart}
use Rattle.dsr_layout.proofs.LegalPlaces.{ends_at_byte}
use Rattle.dsr_layout.proofs.Meanings.{legal_pool}
use Rattle.dsr_meaning.specs.Cells.{width_bits}
use Rattle.dsr_meaning.specs.FixedFields.{fixed_value}
use Rattle.dsr_meaning.specs.Legal.{IsLegalLayout}
use Rattle.dsr_meaning.specs.Places.{lineage, size_of}
use Rattle.dsr_meaning.specs.Refusals.{IsLayoutOf}
use Rattle.dsr_meaning.specs.Writes.{AreCellsApart}
use Rattle.dsr_update.proofs.RecordSlots.{start_is}

-- the cell lies in the slot
pub record LiesInSlot (layout : Layout) (e : Element) (cell : Cell) : Type 0 where
  pub numbers : PoolNumbers
  pub numbers_are : pool_numbers layout e.pool ≡ Some numbers
  pub below : e.slot < numbers.count
  pub from : 8 * (numbers.start + e.slot * numbers.slot) ≤ cell.bit
  pub to : cell.bit + cell.width ≤ 8 * (numbers.start + e.slot * numbers.slot + numbers.slot)

-- so does each entry of a record that isn't the head
pub entry_in_slot : (layout : Layout) (e : Element) (field : FieldRef) (index : ℕ) (cell : Cell) → e.pool ≢ 0 → IsEntry layout e field index cell → LiesInSlot layout e cell
entry_in_slot layout e field index cell some entry =
    let has = entry.entry in
    let width = width_bits has.place.width in
    let bits = has.place.bit + (index + 1) * width in
    let at = entry_cell layout e field index has.place cell has.place_is entry.cell_is in
    elim (nat_eq e.pool 0) as (λ b. nat_eq e.pool 0 ≡ b → MatchBool b (bits ≤ 8 * layout.length) (IsSomeAnd (pool_numbers layout e.pool) (λ n. (e.slot < n.count) × (bits ≤ 8 * n.slot))) → LiesInSlot layout e cell) [
      | true ↦ λ head _. let zero : e.pool ≡ 0 = grind (arith, nat_tests) in absurd (some zero)
      | false ↦ λ _ h. elim (pool_numbers layout e.pool) as (λ o. pool_numbers layout e.pool ≡ o → IsSomeAnd o (λ n. (e.slot < n.count) × (bits ≤ 8 * n.slot)) → LiesInSlot layout e cell) [
        | None ↦ λ _ none. absurd none
        | Some n ↦ λ is own.
            let start = start_is layout e n is in
            let ended : index * width + width ≡ (index + 1) * width = omega arith in
            record { numbers = n; numbers_are = is; below = own.0; from = omega (arith, at.0, start); to = omega (arith, at.0, at.1, start, ended, own.1) }
      ] refl h
    ] refl has.within

module _ (spec : Spec) (bytes : List ℕ) (layout : Layout) (is : IsLayoutOf spec bytes layout) (legal : IsLegalLayout layout) (bits : ℕ) (sized : size_of (fixed_value spec.base bytes) spec.base.structures spec.base.head ≡ Some bits) where
  -- the head has whole bytes
  whole : bits % 8 ≡ 0
  whole =
      let fixed = fixed_value spec.base bytes in
      subst (λ o. IfSome o (λ e. e % 8 ≡ 0)) (sized_end fixed spec.base.structures spec.base.head bits sized) (ends_at_byte fixed (lineage spec.base.structures spec.base.head))

  -- a byte of it is in no slot
  byte_apart : (e : Element) (n : PoolNumbers) (byte : ℕ) → pool_numbers layout e.pool ≡ Some n → e.slot < n.count → 8 * byte < bits → n.start + e.slot * n.slot ≤ byte → byte < n.start + e.slot * n.slot + n.slot → ⊥
  byte_apart e n byte numbers below head from before =
      let next : e.slot * n.slot + n.slot ≤ n.count * n.slot = row_step e.slot n.count n.slot below in
      let low : byte < bits / 8 = omega (arith, head, whole) in
      head_apart spec bytes is.accepted layout is.numbers e.pool n numbers byte
      (subst (λ o. IsSomeAnd (option_map (λ b. b / 8) o) (λ size. byte < size)) (sym sized) low)
      (record { from = omega (arith, from); before = omega (arith, before, next) })

  -- a cell of it shares no bit with one in a slot
  pub slot_apart : (c d : Cell) (e : Element) → c.bit + c.width ≤ bits → LiesInSlot layout e d → AreCellsApart c d
  slot_apart c d e within slot =
      let n = slot.numbers in
      let at = n.start + e.slot * n.slot in
      let pool = legal_pool layout e.pool n legal slot.numbers_are in
      elim (cases_lt (8 * at) (c.bit + c.width)) [
        | inl lt ↦ absurd (byte_apart e n at slot.numbers_are slot.below (omega (arith, lt, within)) (omega arith) (omega (arith, pool.slot_some)))
        | inr le ↦ inl (omega (arith, le, slot.from))
      ]
