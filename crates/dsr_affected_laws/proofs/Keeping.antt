-- Where no fixed field is among the fields, the layout stays.
use Rattle.std.proofs.Common.{◌≡◌, ◌≢◌, ◌≤◌, ◌<◌, ◌+◌, ◌∙◌, ℕ, true, false, List, length, None, Some, IsSomeAnd, inl, inr, refl, sym, ap, subst, arith}
use Rattle.std.specs.Prelude.{option_map}
use Rattle.dsr_affected_laws.specs.Differing.{AreAlikeBut, AreFree, IsBitAt, IsCellAt}
use Rattle.dsr_affected_laws.proofs.Unmoved.{in_line_of_head, legal, only_head}
use Rattle.dsr_layout_laws.proofs.Fields.{in_other_fields}
use Rattle.dsr_layout_laws.specs.Entries.{IsEntry}
use Rattle.dsr_ir.specs.declared.declarations.Field.{Field}
use Rattle.dsr_ir.specs.declared.declarations.FieldRef.{FieldRef}
use Rattle.dsr_ir.specs.declared.declarations.Spec.{Spec}
use Rattle.dsr_ir.specs.declared.layouts.Cell.{Cell}
use Rattle.dsr_ir.specs.declared.layouts.Layout.{Layout}
use Rattle.dsr_ir.specs.declared.tuples.Element.{Element}
use Rattle.dsr_repair_laws.proofs.FixedEntries.{IsFixedEntry, fixed_entry, fixed_field}
use Rattle.dsr_repair_laws.proofs.HeadApart.{entry_in_slot, slot_apart}
use Rattle.dsr_meaning.proofs.Values.{cell_stays}
use Rattle.dsr_meaning.specs.Cells.{bit_of, cell_value}
use Rattle.dsr_meaning.specs.Counting.{IsIn}
use Rattle.dsr_meaning.specs.FixedFields.{fixed_cell, fixed_value}
use Rattle.dsr_meaning.specs.Instances.{declared_field}
use Rattle.dsr_meaning.specs.Layouts.{layout_with}
use Rattle.dsr_meaning.specs.Refusals.{refusals_by}
use Rattle.dsr_meaning.specs.Truth.{head}
use Rattle.dsr_meaning.specs.Writes.{AreBytes, AreCellsApart, HasSameBits}
use Rattle.dsr_step_theory.specs.Images.{IsImageOf}
use Rattle.dsr_model_laws.proofs.Listed.{numbers}

-- the layout of an image is that of one which is as long, and has the same values of fixed fields
same_layout : (spec : Spec) (layout : Layout) (old new : List ℕ) → IsImageOf spec layout old → AreBytes new → length new ≡ length old → ((k : ℕ) → fixed_value spec.base new k ≡ fixed_value spec.base old k) → IsImageOf spec layout new
same_layout spec layout old new image bytes long same = record {
  typed = image.typed;
  bytes = bytes;
  layout_is = record {
    numbers = (λ i. layout_with (λ k. same k i) spec.base (long i)) ∙ image.layout_is.numbers;
    accepted = (λ i. refusals_by (λ k. same k i) spec spec.base (long i)) ∙ image.layout_is.accepted;
  };
  small = subst (λ n. n ≤ 67108864) (sym long) image.small;
}

module _ (spec : Spec) (layout : Layout) (fields : List FieldRef) (old new : List ℕ) (alike : AreAlikeBut spec layout fields old new) (free : AreFree spec fields) where
  module _ (k : ℕ) (cell : Cell) (fixed : fixed_cell spec.base k ≡ Some cell) where
    own : IsFixedEntry spec old layout head k cell
    own = fixed_entry spec old layout alike.image.layout_is (legal spec layout fields old new alike) head refl k cell fixed

    differ : (field : FieldRef) → IsIn field fields → fixed_field spec.base k ≢ field
    differ field among = λ same.
        let declared : declared_field spec.base field ≡ Some own.field = sym (ap (declared_field spec.base) same) ∙ own.declared in
        let unfixed : own.field.fixed ≡ false = subst (λ o. IsSomeAnd o (λ (f : Field). f.fixed ≡ false)) declared (free field among) in
        let both : true ≡ false = sym own.fixed ∙ unfixed in
        cc

    -- it shares no bit with a cell of one of the fields
    beside : (e : Element) (field : FieldRef) (index : ℕ) (d : Cell) → IsIn field fields → IsCellAt spec layout e field index d → AreCellsApart cell d
    beside e field index d among at = elim (numbers e.pool 0) as (λ _. AreCellsApart cell d) [
      | inl none ↦
          let top : e ≡ head = only_head spec layout fields old new alike e field.structure at.of_record none in
          in_other_fields spec.base old layout alike.image.typed.base alike.image.layout_is.numbers head (fixed_field spec.base k) field 0 index cell d (differ field among)
          (inl (in_line_of_head spec layout fields old new alike e field.structure at.of_record none)) own.entry
          (subst (λ x. IsEntry layout x field index d) top at.entry)
      | inr some ↦ slot_apart spec old layout alike.image.layout_is (legal spec layout fields old new alike) own.bits own.sized cell d e own.within (entry_in_slot layout e field index d some at.entry)
    ]

    clash : (j : ℕ) → cell.bit ≤ j → j < cell.bit + cell.width → IsBitAt spec layout fields j → ⊥
    clash j from before h = elim (beside h.elem h.field h.index h.cell h.among h.at) as (λ _. ⊥) [
      | inl ends ↦ omega (arith, ends, before, h.bit.from)
      | inr ends ↦ omega (arith, ends, from, h.bit.before)
    ]

    same_bits : HasSameBits cell old new
    same_bits j from before = elim (numbers (bit_of new j) (bit_of old j)) as (λ _. bit_of new j ≡ bit_of old j) [
      | inl same ↦ same
      | inr other ↦ absurd (clash j from before (alike.differ j other))
    ]

    left : cell_value new cell ≡ cell_value old cell
    left = cell_stays old new alike.image.bytes alike.new_bytes cell own.form same_bits

  value_left : (k : ℕ) → fixed_value spec.base new k ≡ fixed_value spec.base old k
  value_left k = elim (fixed_cell spec.base k) as (λ o. fixed_cell spec.base k ≡ o → option_map (cell_value new) o ≡ option_map (cell_value old) o) [
    | None ↦ λ _. refl
    | Some cell ↦ λ is. ap Some (left k cell is)
  ] refl

  pub layout_stays : length new ≡ length old → IsImageOf spec layout new
  layout_stays long = same_layout spec layout old new alike.image alike.new_bytes long value_left
