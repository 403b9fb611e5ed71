-- A step leaves the values of the fixed fields, and so the layout.
use Rattle.std.proofs.Common.{◌≡◌, ◌≢◌, ◌≤◌, ◌∙◌, ℕ, true, false, nat_eq, List, length, All, None, Some, option_map, inl, refl, sym, ap, subst, arith}
use Rattle.std.specs.Prelude.{IfSome, IsSomeAnd, MatchOption}
use Rattle.std.proofs.lemmas.Bool.Decides.{nat_tests}
use Rattle.dsr_layout_laws.proofs.Fields.{in_other_fields}
use Rattle.dsr_ir.specs.declared.declarations.Field.{Field}
use Rattle.dsr_ir.specs.declared.declarations.Spec.{Spec}
use Rattle.dsr_ir.specs.declared.layouts.Cell.{Cell}
use Rattle.dsr_ir.specs.declared.layouts.Layout.{Layout}
use Rattle.dsr_ir.specs.declared.tuples.Element.{Element}
use Rattle.dsr_ir.specs.declared.updates.Update.{Update}
use Rattle.dsr_ir.specs.declared.updates.Write.{Write}
use Rattle.dsr_meaning.specs.Cells.{cell_value}
use Rattle.dsr_meaning.specs.FixedFields.{fixed_cell, fixed_value}
use Rattle.dsr_meaning.specs.Instances.{declared_field}
use Rattle.dsr_meaning.specs.Layouts.{layout_with}
use Rattle.dsr_meaning.specs.Legal.{IsLegalLayout}
use Rattle.dsr_meaning.specs.Refusals.{refusals_by}
use Rattle.dsr_meaning.specs.Writes.{AreBytes, AreCellsApart, HasSameBits}
use Rattle.dsr_step_theory.specs.Images.{FixedFieldsStay, IsFree, IsImageOf, IsOfHead}
use Rattle.dsr_resolve.proofs.AcceptedLayouts.{legal_of}
use Rattle.dsr_step_theory.specs.Puts.{ArePut}
use Rattle.dsr_step_theory.specs.Resets.{reset_puts}
use Rattle.dsr_step_theory.specs.Steps.{CanStep, CanWrite, IsSlot, IsStepped, written_cell, written_index}
use Rattle.dsr_step_theory.specs.declared.steps.Step.{Step}
use Rattle.dsr_update.specs.Claims.{CanReset}
use Rattle.dsr_repair_laws.proofs.Clear.{puts_as_long, puts_bytes, puts_leave, writes_as_long, writes_bytes, writes_leave}
use Rattle.dsr_repair_laws.proofs.FixedEntries.{IsFixedEntry, fixed_entry, fixed_field}
use Rattle.dsr_repair_laws.proofs.HeadApart.{LiesInSlot, entry_in_slot, slot_apart}
use Rattle.dsr_repair_laws.proofs.PutOnce.{bits_told}
use Rattle.dsr_repair_laws.proofs.ResetPuts.{reset_clear}
use Rattle.dsr_meaning.proofs.Items.{of_all}

-- the layout of an image is that of one which is as long, and has the same values of fixed fields
same_layout : (spec : Spec) (layout : Layout) (old new : List ℕ) → IsImageOf spec layout old → AreBytes new → length new ≡ length old → ((k : ℕ) → fixed_value spec.base new k ≡ fixed_value spec.base old k) → IsImageOf spec layout new
same_layout spec layout old new image bytes long same = record {
  typed = image.typed;
  bytes = bytes;
  layout_is = record {
    numbers = (λ i. layout_with (λ k. same k i) spec.base (long i)) ∙ image.layout_is.numbers;
    accepted = (λ i. refusals_by (λ k. same k i) spec spec.base (long i)) ∙ image.layout_is.accepted;
  };
  small = subst (λ n. n ≤ 67108864) (sym long) image.small;
}

module _ (spec : Spec) (layout : Layout) (step : Step) (update : Update) (old : List ℕ) (image : IsImageOf spec layout old) where
  legal : IsLegalLayout layout
  legal = legal_of spec old layout image.layout_is image.typed image.small

  -- the cell of a fixed field
  module _ (k : ℕ) (cell : Cell) (fixed : fixed_cell spec.base k ≡ Some cell) where
    -- shares no bit with one of another field of the head
    head_apart : (write : Write) (d : Cell) → step.elem.pool ≡ 0 → CanWrite spec layout step write → IsFree spec write → IsOfHead spec step.elem write → written_cell layout step write ≡ Some d → AreCellsApart cell d
    head_apart write d head can free of_head is =
        let at = fixed_entry spec old layout image.layout_is legal step.elem head k cell fixed in
        let differ : fixed_field spec.base k ≢ write.path.field =
        λ same.
        let declared : declared_field spec.base write.path.field ≡ Some at.field = sym (ap (declared_field spec.base) same) ∙ at.declared in
        let unfixed : at.field.fixed ≡ false = subst (λ o. IsSomeAnd o (λ (f : Field). f.fixed ≡ false)) declared free in
        let both : true ≡ false = sym at.fixed ∙ unfixed in
        cc in
        in_other_fields spec.base old layout image.typed.base image.layout_is.numbers step.elem (fixed_field spec.base k) write.path.field 0 (written_index step write) cell d differ
        (inl (of_head head)) at.entry (record { entry = can.entry; cell_is = is })

    -- is one of the head
    own : IsFixedEntry spec old layout (record { pool = 0; slot = 0 }) k cell
    own = fixed_entry spec old layout image.layout_is legal (record { pool = 0; slot = 0 }) refl k cell fixed

    -- shares no bit with one in a slot
    slots_apart : (e : Element) (d : Cell) → LiesInSlot layout e d → AreCellsApart cell d
    slots_apart e d slot = slot_apart spec old layout image.layout_is legal own.bits own.sized cell d e own.within slot

    -- and so none with one that is written
    written_apart : (write : Write) (d : Cell) → CanWrite spec layout step write → IsFree spec write → IsOfHead spec step.elem write → written_cell layout step write ≡ Some d → AreCellsApart cell d
    written_apart write d can free of_head is = elim (nat_eq step.elem.pool 0) as (λ b. nat_eq step.elem.pool 0 ≡ b → AreCellsApart cell d) [
      | true ↦ λ e. let head : step.elem.pool ≡ 0 = grind (arith, nat_tests) in head_apart write d head can free of_head is
      | false ↦ λ e.
          let some : step.elem.pool ≢ 0 =
          λ head.
          let both : true ≡ false = sym (ap (λ p. nat_eq p 0) head) ∙ e in
          cc in
          slots_apart step.elem d (entry_in_slot layout step.elem write.path.field (written_index step write) d some (record { entry = can.entry; cell_is = is }))
    ] refl

  module _ (new : List ℕ) (can : CanStep spec layout step update (length old)) (free : All (IsFree spec) update.writes) (of_head : All (IsOfHead spec step.elem) update.writes) (stepped : IsStepped spec layout step update old new) where
    reset_as_long : length stepped.between ≡ length old
    reset_as_long = elim step.fresh as (λ o. MatchOption o (stepped.between ≡ old) (λ e. ArePut (reset_puts spec.base layout e) old stepped.between) → length stepped.between ≡ length old) [
      | None ↦ λ same. ap length same
      | Some e ↦ λ puts. puts_as_long (reset_puts spec.base layout e) old stepped.between puts
    ] stepped.reset

    reset_bytes : AreBytes stepped.between
    reset_bytes = elim step.fresh as (λ o. MatchOption o (stepped.between ≡ old) (λ e. ArePut (reset_puts spec.base layout e) old stepped.between) → AreBytes stepped.between) [
      | None ↦ λ same. subst AreBytes (sym same) image.bytes
      | Some e ↦ λ puts. puts_bytes (reset_puts spec.base layout e) old stepped.between image.bytes puts
    ] stepped.reset

    -- the reset leaves the value of a fixed field's cell
    reset_leaves : (k : ℕ) (cell : Cell) → fixed_cell spec.base k ≡ Some cell → cell_value stepped.between cell ≡ cell_value old cell
    reset_leaves k cell fixed = elim step.fresh as (λ o. IfSome o (IsSlot layout) → MatchOption o (stepped.between ≡ old) (λ e. ArePut (reset_puts spec.base layout e) old stepped.between) → cell_value stepped.between cell ≡ cell_value old cell) [
      | None ↦ λ _ same. ap (λ bytes. cell_value bytes cell) same
      | Some e ↦ λ slot puts.
          let resets : CanReset spec layout e (length old) = record { typed = image.typed; image = old; layout_is = image.layout_is; as_long = refl; small = image.small; slot = slot } in
          puts_leave cell (own k cell fixed).form (reset_puts spec.base layout e) old stepped.between (reset_clear spec layout e (length old) resets cell (slots_apart k cell fixed e)) puts
    ] can.fresh stepped.reset

    -- the whole step leaves the value
    left : (k : ℕ) (cell : Cell) → fixed_cell spec.base k ≡ Some cell → cell_value new cell ≡ cell_value old cell
    left k cell fixed =
        writes_leave cell (own k cell fixed).form update.writes stepped.between new (λ v is_in d is.
        written_apart k cell fixed v d (of_all (CanWrite spec layout step) update.writes v can.writes is_in) (of_all (IsFree spec) update.writes v free is_in) (of_all (IsOfHead spec step.elem) update.writes v of_head is_in) is) stepped.written
        ∙ reset_leaves k cell fixed

    -- and each of its bits, since both images are bytes
    bits_left : FixedFieldsStay spec.base old new
    bits_left k = elim (fixed_cell spec.base k) as (λ o. fixed_cell spec.base k ≡ o → IfSome o (λ cell. HasSameBits cell old new)) [
      | None ↦ λ _. tt
      | Some cell ↦ λ is. bits_told new old (writes_bytes update.writes stepped.between new reset_bytes stepped.written) image.bytes cell.bit cell.width cell.order cell.bytewise (own k cell is).form (left k cell is)
    ] refl

    value_left : (k : ℕ) → fixed_value spec.base new k ≡ fixed_value spec.base old k
    value_left k = elim (fixed_cell spec.base k) as (λ o. fixed_cell spec.base k ≡ o → option_map (cell_value new) o ≡ option_map (cell_value old) o) [
      | None ↦ λ _. refl
      | Some cell ↦ λ is. ap Some (left k cell is)
    ] refl

pub layout_kept : (spec : Spec) (layout : Layout) (step : Step) (update : Update) (old new : List ℕ) → IsImageOf spec layout old → CanStep spec layout step update (length old) → All (IsFree spec) update.writes → All (IsOfHead spec step.elem) update.writes → IsStepped spec layout step update old new → IsImageOf spec layout new
layout_kept spec layout step update old new image can free of_head stepped =
    same_layout spec layout old new image
    (writes_bytes update.writes stepped.between new (reset_bytes spec layout step update old image new can free of_head stepped) stepped.written)
    (writes_as_long update.writes stepped.between new stepped.written ∙ reset_as_long spec layout step update old image new can free of_head stepped)
    (value_left spec layout step update old image new can free of_head stepped)

pub fixed_fields_kept : (spec : Spec) (layout : Layout) (step : Step) (update : Update) (old new : List ℕ) → IsImageOf spec layout old → CanStep spec layout step update (length old) → All (IsFree spec) update.writes → All (IsOfHead spec step.elem) update.writes → IsStepped spec layout step update old new → FixedFieldsStay spec.base old new
fixed_fields_kept spec layout step update old new image can free of_head stepped = bits_left spec layout step update old image new can free of_head stepped
