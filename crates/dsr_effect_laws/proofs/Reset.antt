-- What the puts of a reset leave: reset values in named fields, 0 beside them in the slot, and all else as it was.
use Rattle.std.proofs.Common.{◌≡◌, ◌≤◌, ◌<◌, ◌+◌, ◌*◌, ◌/◌, ◌%◌, ◌^◌, ◌⊎◌, ◌∙◌, ℕ, zero, suc, List, [], ◌∷◌, Option, Some, inl, inr, refl, ap, subst, sym, arith, length}
use Rattle.std.proofs.Math.Nat.{zero-div}
use Rattle.std.proofs.lemmas.Bool.{cases_lt}
use Rattle.std.specs.Option.{option_map_or}
use Rattle.std.specs.Prelude.{IsSomeAnd, slice_index}
use Rattle.dsr_ir.specs.Layouts.{pool_numbers}
use Rattle.dsr_ir.specs.declared.declarations.Spec.{Spec}
use Rattle.dsr_ir.specs.declared.layouts.Cell.{Cell}
use Rattle.dsr_ir.specs.declared.layouts.Layout.{Layout}
use Rattle.dsr_ir.specs.declared.layouts.PoolNumbers.{PoolNumbers}
use Rattle.dsr_ir.specs.declared.tuples.Element.{Element}
use Rattle.dsr_repair_laws.proofs.Clear.{puts_as_long}
use Rattle.dsr_repair_laws.proofs.EachPut.{AreEach, IsFieldPut, Put, record_each, reset_each, zeros_each}
use Rattle.dsr_repair_laws.proofs.EntryOnce.{is_formed}
use Rattle.dsr_repair_laws.proofs.HeadApart.{LiesInSlot}
use Rattle.dsr_repair_laws.proofs.ResetPuts.{byte_lies, entry_lies}
use Rattle.dsr_meaning.proofs.Options.{and_some}
use Rattle.dsr_meaning.specs.Cells.{bit_of, cell_value, record_start}
use Rattle.dsr_meaning.specs.Writes.{IsBitOf}
use Rattle.dsr_step_theory.specs.Puts.{ArePut}
use Rattle.dsr_step_theory.specs.Puts.ArePut.{done, put}
use Rattle.dsr_step_theory.specs.Resets.{byte_cell, record_puts, reset_puts, slot_zeros, zeros}
use Rattle.dsr_update.proofs.ByteCells.{byte_value}
use Rattle.dsr_update.proofs.RecordEntries.{has_entry, legal_where_small}
use Rattle.dsr_update.proofs.RecordSlots.{in_pool, start_is}
use Rattle.dsr_update.specs.Claims.{CanReset}
use Rattle.dsr_update.specs.Resets.{IsReset, IsResetBit, IsResetCell, IsSlotBit}
use Rattle.dsr_effect_laws.proofs.Puts.{split}
use Rattle.dsr_effect_laws.proofs.Resetting.{reset_to}

-- the bit is none of the cell
abbrev IsBeside : ℕ → Cell → Type 0
IsBeside j cell = (j < cell.bit) ⊎ (cell.bit + cell.width ≤ j)

beside_or_in : (j : ℕ) (cell : Cell) → IsBeside j cell ⊎ IsBitOf cell.bit cell.width j
beside_or_in j cell = elim (cases_lt j cell.bit) as (λ _. IsBeside j cell ⊎ IsBitOf cell.bit cell.width j) [
  | inl low ↦ inl (inl low)
  | inr from ↦ elim (cases_lt j (cell.bit + cell.width)) as (λ _. IsBeside j cell ⊎ IsBitOf cell.bit cell.width j) [
    | inl before ↦ inr (record { from = from; before = before })
    | inr behind ↦ inl (inr behind)
  ]
]

-- where it isn't one, it is beside
beside : (j : ℕ) (cell : Cell) → (IsBitOf cell.bit cell.width j → ⊥) → IsBeside j cell
beside j cell out = elim (beside_or_in j cell) as (λ _. IsBeside j cell) [ inl away ↦ away | inr within ↦ absurd (out within) ]

-- what an option has that is known
is_and : {X : Type 0} (o : Option X) (P : X → Type 0) (x : X) → o ≡ Some x → IsSomeAnd o P → P x
is_and o P x e is = subst (λ p. IsSomeAnd p P) e is

module _ (j : ℕ) where
  -- what is put beside a bit leaves it
  bit_stays : (puts : List Put) (old new : List ℕ) → AreEach (λ (p : Put). IsBeside j p.0) puts → ArePut puts old new → bit_of new j ≡ bit_of old j
  bit_stays [] old new each done = refl
  bit_stays (p ∷ puts) old new each (put cell value one rest) = bit_stays puts _ new each.1 rest ∙ one.puts.others j each.0

  -- a byte that is 0 has no other bit
  zero_bit : (bytes : List ℕ) (at : ℕ) → 8 * at ≤ j → j < 8 * at + 8 → cell_value bytes (byte_cell at) ≡ 0 → bit_of bytes j ≡ 0
  zero_bit bytes at from before is =
      let place : j / 8 ≡ at = omega (arith, from, before) in
      let byte : slice_index bytes (j / 8) ≡ 0 = ap (slice_index bytes) place ∙ (sym (byte_value bytes at) ∙ is) in
      ap (λ n. n / 2 ^ (j % 8) % 2) byte ∙ ap (λ n. n % 2) (zero-div (2 ^ (j % 8)))

  zeros_clear : (at count : ℕ) (old new : List ℕ) → ArePut (zeros at count) old new → 8 * at ≤ j → j < 8 * (at + count) → bit_of new j ≡ 0
  zeros_clear at zero old new are from before = absurd (omega (arith, from, before))
  zeros_clear at (suc count) old new (put {middle = middle} cell value one rest) from before = elim (cases_lt j (8 * at + 8)) as (λ _. bit_of new j ≡ 0) [
    | inl here ↦
        bit_stays (zeros (at + 1) count) middle new
        (zeros_each (λ (p : Put). IsBeside j p.0) (at + 1) count (λ byte low high. inl (omega (arith, here, low)))) rest
        ∙ zero_bit middle at from here one.puts.got
    | inr later ↦ zeros_clear (at + 1) count middle new rest (omega (arith, later)) (omega (arith, before))
  ]

module _ (spec : Spec) (layout : Layout) (e : Element) (old new : List ℕ) (can : CanReset spec layout e (length old)) (are : ArePut (reset_puts spec.base layout e) old new) where
  -- a bit of what lies in the slot is one of the slot
  slot_bit : (j : ℕ) (cell : Cell) → LiesInSlot layout e cell → IsBitOf cell.bit cell.width j → IsSlotBit layout e j
  slot_bit j cell lies within =
      let start = start_is layout e lies.numbers lies.numbers_are in
      and_some (pool_numbers layout e.pool) (λ n. IsBitOf (8 * record_start layout e) (8 * n.slot) j) lies.numbers lies.numbers_are
      (record { from = omega (arith, start, lies.from, within.from); before = omega (arith, start, lies.to, within.before) })

  others_stay : (j : ℕ) → (IsSlotBit layout e j → ⊥) → bit_of new j ≡ bit_of old j
  others_stay j out =
      bit_stays j (reset_puts spec.base layout e) old new
      (reset_each (λ (p : Put). IsBeside j p.0) spec layout e
      (λ cell value is. beside j cell (λ within. out (slot_bit j cell (entry_lies spec layout e (length old) can cell value is) within)))
      (λ n is byte from before. beside j (byte_cell byte) (λ within. out (slot_bit j (byte_cell byte) (byte_lies spec layout e (length old) can n is byte from before) within)))) are

  -- what is put into an entry of a field is its reset value
  reset_cell : (cell : Cell) (value : ℕ) → IsFieldPut spec layout e cell value → IsResetCell spec layout e cell value
  reset_cell cell value is = record {
    place = is.place;
    field = is.field;
    of_record = is.of_record;
    value_is = is.value_is;
    index = is.index;
    entry = record { entry = has_entry spec layout e (length old) can is.place is.field is.of_record is.at is.at_is is.index is.below; cell_is = is.cell_is };
  }

  cleared : (j : ℕ) → IsSlotBit layout e j → (IsResetBit spec layout e j → ⊥) → bit_of new j ≡ 0
  cleared j in_slot out =
      let parts = split (slot_zeros layout e) (record_puts spec.base layout e) old new are in
      let pool = in_pool layout e can.slot in
      let bit : IsBitOf (8 * record_start layout e) (8 * pool.numbers.slot) j = is_and (pool_numbers layout e.pool) (λ n. IsBitOf (8 * record_start layout e) (8 * n.slot) j) pool.numbers pool.numbers_are in_slot in
      let low = bit.from in
      let high = bit.before in
      bit_stays j (record_puts spec.base layout e) parts.0 new
      (record_each (λ (p : Put). IsBeside j p.0) spec layout e
      (λ cell value is. beside j cell (λ within. out (record { cell = cell; value = value; cell_is = reset_cell cell value is; within = within })))) parts.2
      ∙ zeros_clear j (record_start layout e) pool.numbers.slot old parts.0
      (subst (λ o. ArePut (option_map_or (λ (n : PoolNumbers). zeros (record_start layout e) n.slot) o []) old parts.0) pool.numbers_are parts.1)
      low (omega (arith, high))

  pub is_reset : IsReset spec layout e old new
  is_reset = record {
    fields = λ cell value is.
        reset_to spec layout e (length old) can is.place is.field is.of_record is.index cell is.entry value is.value_is
        (is_formed layout e is.place is.index cell (legal_where_small spec layout e (length old) can can.small) is.entry.cell_is) old new are;
    cleared = cleared;
    others = others_stay;
    as_long = puts_as_long (reset_puts spec.base layout e) old new are;
  }
