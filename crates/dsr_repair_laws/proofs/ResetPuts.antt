-- The reset of a record puts values into its slot alone.
use Rattle.std.proofs.Common.{◌≡◌, ◌≢◌, ◌≤◌, ◌<◌, ◌+◌, ◌∙◌, ℕ, None, Some, sym, ap, arith}
use Rattle.dsr_ir.specs.Layouts.{pool_numbers}
use Rattle.dsr_ir.specs.declared.declarations.Spec.{Spec}
use Rattle.dsr_ir.specs.declared.layouts.Cell.{Cell}
use Rattle.dsr_ir.specs.declared.layouts.Layout.{Layout}
use Rattle.dsr_ir.specs.declared.layouts.PoolNumbers.{PoolNumbers}
use Rattle.dsr_ir.specs.declared.tuples.Element.{Element}
use Rattle.dsr_meaning.specs.Cells.{record_start}
use Rattle.dsr_meaning.specs.Writes.{AreCellsApart}
use Rattle.dsr_step_theory.specs.Resets.{byte_cell, reset_puts}
use Rattle.dsr_update.proofs.RecordEntries.{has_entry}
use Rattle.dsr_update.proofs.RecordSlots.{in_pool, slot_below, start_is}
use Rattle.dsr_update.specs.Claims.{CanReset}
use Rattle.dsr_repair_laws.proofs.Clear.{AreClearOf}
use Rattle.dsr_repair_laws.proofs.EachPut.{IsFieldPut, Put, reset_each}
use Rattle.dsr_repair_laws.proofs.HeadApart.{LiesInSlot, entry_in_slot}

module _ (spec : Spec) (layout : Layout) (e : Element) (bytes : ℕ) (can : CanReset spec layout e bytes) where
  -- a slot is in a pool
  pool_some : e.pool ≢ 0
  pool_some none =
      let pool = in_pool layout e can.slot in
      let both : None ≡ Some pool.numbers = sym (ap (pool_numbers layout) none) ∙ pool.numbers_are in
      cc

  -- a byte of the slot lies in it
  pub byte_lies : (n : PoolNumbers) → pool_numbers layout e.pool ≡ Some n → (byte : ℕ) → record_start layout e ≤ byte → byte < record_start layout e + n.slot → LiesInSlot layout e (byte_cell byte)
  byte_lies n is byte from before =
      let start = start_is layout e n is in
      record { numbers = n; numbers_are = is; below = slot_below layout e n can.slot is; from = omega (arith, start, from); to = omega (arith, start, before) }

  -- and so does each entry
  pub entry_lies : (cell : Cell) (value : ℕ) → IsFieldPut spec layout e cell value → LiesInSlot layout e cell
  entry_lies cell value is =
      entry_in_slot layout e is.place is.index cell pool_some
      (record { entry = has_entry spec layout e bytes can is.place is.field is.of_record is.at is.at_is is.index is.below; cell_is = is.cell_is })

  -- a cell that shares no bit with what lies in the slot shares none with what is put
  pub reset_clear : (c : Cell) → ((d : Cell) → LiesInSlot layout e d → AreCellsApart c d) → AreClearOf c (reset_puts spec.base layout e)
  reset_clear c apart =
      reset_each (λ (p : Put). AreCellsApart c p.0) spec layout e
      (λ cell value is. apart cell (entry_lies cell value is))
      (λ n is byte from before. apart (byte_cell byte) (byte_lies n is byte from before))
