-- A step changes no byte but those of its fresh record and of the cells that it writes.
use Rattle.std.proofs.Common.{◌≡◌, ◌≤◌, ◌<◌, ◌+◌, ◌*◌, ◌∙◌, ℕ, List, length, Option, None, Some, MatchOption, inl, inr, refl, sym, ap, subst, arith}
use Rattle.std.specs.Prelude.{IfSome, option_map, slice_index}
use Rattle.dsr_ir.specs.declared.declarations.Spec.{Spec}
use Rattle.dsr_ir.specs.declared.layouts.Cell.{Cell}
use Rattle.dsr_ir.specs.declared.layouts.Layout.{Layout}
use Rattle.dsr_ir.specs.declared.tuples.Element.{Element}
use Rattle.dsr_ir.specs.declared.updates.Update.{Update}
use Rattle.dsr_repair_laws.proofs.Clear.{puts_leave, writes_leave}
use Rattle.dsr_repair_laws.proofs.HeadApart.{LiesInSlot}
use Rattle.dsr_repair_laws.proofs.ResetPuts.{reset_clear}
use Rattle.dsr_repair_laws.proofs.Told.{were_written}
use Rattle.dsr_repair.proofs.StepSpans.{of_fresh, of_write}
use Rattle.dsr_repair.specs.Spans.{IsClear, IsOutside, cell_span, pool_span, slot_span, step_spans}
use Rattle.dsr_meaning.specs.Writes.{AreCellsApart}
use Rattle.dsr_repair_theory.specs.Entries.{AreSet}
use Rattle.dsr_repair_theory.specs.declared.entries.CellSet.{CellSet}
use Rattle.dsr_step_theory.specs.Puts.{ArePut}
use Rattle.dsr_step_theory.specs.Resets.{byte_cell, reset_puts}
use Rattle.dsr_step_theory.specs.Steps.{CanStep, IsSlot}
use Rattle.dsr_step_theory.specs.declared.steps.Step.{Step}
use Rattle.dsr_update.proofs.ByteCells.{byte_value}
use Rattle.dsr_update.specs.Claims.{CanReset}

-- a byte that is none of a cell's shares no bit with it
apart_cell : (j : ℕ) (d : Cell) → IsOutside j (cell_span d) → AreCellsApart (byte_cell j) d
apart_cell j d (inl before) = inl (omega (arith, before))
apart_cell j d (inr behind) = inr (omega (arith, behind))

-- a byte that is none of a slot's shares no bit with what lies there
apart_slot : (layout : Layout) (e : Element) (j : ℕ) (d : Cell) → IfSome (slot_span layout e) (IsOutside j) → LiesInSlot layout e d → AreCellsApart (byte_cell j) d
apart_slot layout e j d outside lies =
    let n = lies.numbers in
    let at = n.start + e.slot * n.slot in
    elim (subst (λ o. IfSome (option_map (pool_span e) o) (IsOutside j)) lies.numbers_are outside) as (λ _. AreCellsApart (byte_cell j) d) [
      | inl before ↦ let first : j < at = before in inl (omega (arith, first, lies.from))
      | inr behind ↦ let last : at + n.slot ≤ j = behind in inr (omega (arith, last, lies.to))
    ]

module _ (spec : Spec) (layout : Layout) (step : Step) (update : Update) (old between new : List ℕ) (sets : List CellSet) (can : CanStep spec layout step update (length old)) where
  reset_leaves :
      (fresh : Option Element) (j : ℕ) → IfSome fresh (IsSlot layout) → IfSome fresh (λ e. IfSome (slot_span layout e) (IsOutside j))
      → MatchOption fresh (between ≡ old) (λ e. ArePut (reset_puts spec.base layout e) old between) → slice_index between j ≡ slice_index old j
  reset_leaves None j slot outside same = ap (λ bytes. slice_index bytes j) same
  reset_leaves (Some e) j slot outside puts =
      let reset : CanReset spec layout e (length old) = record { typed = can.typed; image = can.image; layout_is = can.layout_is; as_long = can.as_long; small = can.small; slot = slot } in
      sym (byte_value between j)
      ∙ (puts_leave (byte_cell j) (inl refl, omega arith) (reset_puts spec.base layout e) old between
      (reset_clear spec layout e (length old) reset (byte_cell j) (λ d lies. apart_slot layout e j d outside lies)) puts
      ∙ byte_value old j)

  pub untouched_stay :
      MatchOption step.fresh (between ≡ old) (λ e. ArePut (reset_puts spec.base layout e) old between)
      → AreSet spec layout step update.writes between new sets
      → (j : ℕ) → IsClear (step_spans layout step update.writes) j → slice_index new j ≡ slice_index old j
  untouched_stay reset set j clear =
      sym (byte_value new j)
      ∙ (writes_leave (byte_cell j) (inl refl, omega arith) update.writes between new
      (λ v of d at. apart_cell j d (subst (λ o. IfSome (option_map cell_span o) (IsOutside j)) at (of_write (IsOutside j) layout step update.writes clear v of)))
      (were_written spec layout step set)
      ∙ (byte_value between j ∙ reset_leaves step.fresh j can.fresh (of_fresh (IsOutside j) layout step update.writes clear) reset))
