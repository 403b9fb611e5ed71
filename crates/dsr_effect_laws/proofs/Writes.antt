-- What the writes of a step leave in their cells, and what a step leaves of cells beside them.
use Rattle.std.proofs.Common.{◌≡◌, ◌<◌, ◌^◌, ◌⊎◌, ◌∙◌, ℕ, Bool, true, false, List, [], ◌∷◌, length, Option, None, Some, IsSomeAnd, MatchBool, MatchOption, inl, inr, refl, sym, ap, subst}
use Rattle.std.specs.Prelude.{option_map}
use Rattle.std.specs.Option.{option_and_then}
use Rattle.std.proofs.lemmas.Option.{same_Some}
use Rattle.dsr_layout_laws.proofs.Fields.{in_other_fields}
use Rattle.dsr_layout_laws.specs.Entries.{IsEntry}
use Rattle.dsr_ir.specs.declared.declarations.Field.{Field}
use Rattle.dsr_ir.specs.declared.declarations.FieldRef.{FieldRef}
use Rattle.dsr_ir.specs.declared.layouts.Cell.{Cell}
use Rattle.dsr_ir.specs.declared.layouts.Layout.{Layout}
use Rattle.dsr_ir.specs.declared.tuples.Element.{Element}
use Rattle.dsr_ir.specs.declared.updates.Write.{Write}
use Rattle.dsr_repair_laws.proofs.Clear.{puts_leave, writes_leave}
use Rattle.dsr_repair_laws.proofs.HeadApart.{LiesInSlot}
use Rattle.dsr_repair_laws.proofs.ResetPuts.{reset_clear}
use Rattle.dsr_layout.proofs.HeldCells.{cell_form}
use Rattle.dsr_meaning.specs.Cells.{IsFieldCell, cell_value, is_bytewise, placed_cell, record_start, width_bits}
use Rattle.dsr_meaning.specs.Counting.{IsIn}
use Rattle.dsr_meaning.specs.Instances.{Meets, declared_field, kind_pool, referred_pool}
use Rattle.dsr_meaning.specs.Legal.{IsLegalLayout}
use Rattle.dsr_meaning.specs.Writes.{AreCellsApart}
use Rattle.dsr_resolve.proofs.AcceptedLayouts.{legal_of}
use Rattle.dsr_step_laws.proofs.Beside.{first_beside, rest_together}
use Rattle.dsr_step_laws.proofs.Related.{related_lines}
use Rattle.dsr_step_theory.specs.Puts.{ArePut}
use Rattle.dsr_step_theory.specs.Resets.{reset_puts}
use Rattle.dsr_step_theory.specs.Steps.{AreWritten, IsWanted, written_cell, written_index, written_number}
use Rattle.dsr_step_theory.specs.Steps.AreWritten.{made, skipped}
use Rattle.dsr_step_theory.specs.declared.steps.Step.{Step}
use Rattle.dsr_update.proofs.RecordEntries.{same_width}
use Rattle.dsr_update.specs.Claims.{CanReset}
use Rattle.dsr_update_theory.specs.Changes.{Change}
use Rattle.dsr_update_theory.specs.Together.{MayStandBeside, MayStandTogether}
use Rattle.dsr_update_theory.specs.Touching.{Leaves, is_removal}
use Rattle.dsr_update_theory.specs.Values.{CellValue, MayLeave}
use Rattle.dsr_effect_laws.specs.Leaving.{StandsFor}
use Rattle.dsr_effect_laws.proofs.TestedValues.{AreTold}
use Rattle.dsr_effect_laws.proofs.TestedValues.{none_told}
use Rattle.dsr_effect_laws.specs.Fitting.{IsFitStep, IsFitWrite}
use Rattle.dsr_effect_laws.proofs.Bounds.{value_fits}
use Rattle.dsr_effect_laws.proofs.Slots.{LiesIn, beside_slot, entry_lies, turned}
use Rattle.dsr_effect_laws.proofs.PickedValues.{Picked, picked, wanted_left}
use Rattle.dsr_meaning.proofs.Options.{and_some}

-- the cell of an entry is one that a field may have
pub entry_form : (layout : Layout) (e : Element) (field : FieldRef) (index : ℕ) (cell : Cell) → IsLegalLayout layout → IsEntry layout e field index cell → IsFieldCell cell
entry_form layout e field index cell legal entry =
    let place = entry.entry.place in
    let start = record_start layout e in
    let both : Some (placed_cell layout.order start index place) ≡ Some cell = ap (option_map (placed_cell layout.order start index)) (sym entry.entry.place_is) ∙ entry.cell_is in
    subst IsFieldCell (same_Some (placed_cell layout.order start index place) cell both)
    (cell_form layout field place start index (width_bits place.width) (is_bytewise place.width) layout.order legal entry.entry.place_is refl refl)

-- what a write leaves in its cell: the picked number, or what was there, where that is what the write wants
pub record IsLeftFrom (c : Change) (layout : Layout) (step : Step) (between new : List ℕ) (write : Write) : Type 0 where
  pub cell : Cell
  pub number : ℕ
  pub cell_is : written_cell layout step write ≡ Some cell
  pub number_is : written_number c.spec layout step write ≡ Some number
  pub holds :
      (cell_value new cell ≡ number)
      ⊎ ((cell_value new cell ≡ cell_value between cell) × IsWanted c.spec layout write number (cell_value between cell))

module _ (c : Change) (layout : Layout) (step : Step) (old new : List ℕ) (fit : IsFitStep c layout step old new) where
  pub legal : IsLegalLayout layout
  legal = legal_of c.spec old layout fit.image.layout_is fit.image.typed fit.image.small

  abbrev between : List ℕ
  between = fit.stepped.between

  abbrev Lies : Element → Cell → Type 0
  Lies e cell = LiesIn c.spec old layout fit.image.layout_is fit.image.typed legal e cell

  -- ---- cells that are written

  module _ (write : Write) (is_in : IsIn write c.update.writes) (cell : Cell) (is : written_cell layout step write ≡ Some cell) where
    pub write_entry : IsEntry layout step.elem write.path.field (written_index step write) cell
    write_entry = record { entry = (fit.writes write is_in).can.entry; cell_is = is }

    pub write_form : IsFieldCell cell
    write_form = entry_form layout step.elem write.path.field (written_index step write) cell legal write_entry

    pub write_lies : Lies step.elem cell
    write_lies =
        let its = fit.writes write is_in in
        entry_lies c.spec old layout fit.image.layout_is fit.image.typed legal step.elem write.path.field its.field (written_index step write) cell fit.in_head its.declared its.of_head write_entry

    -- a number that was picked fits it
    pub number_fits : (number : ℕ) → written_number c.spec layout step write ≡ Some number → number < 2 ^ cell.width
    number_fits number number_is =
        let can = (fit.writes write is_in).can in
        let same : can.number ≡ number = same_Some can.number number (sym can.number_is ∙ number_is) in
        subst (λ n. n < 2 ^ cell.width) same (subst (λ o. IsSomeAnd o (λ d. can.number < 2 ^ d.width)) is can.fits)

    pub width_is : cell.width ≡ width_bits (fit.writes write is_in).field.width
    width_is =
        let its = fit.writes write is_in in
        let place = its.can.entry.place in
        let start = record_start layout step.elem in
        let index = written_index step write in
        let both : Some (placed_cell layout.order start index place) ≡ Some cell = ap (option_map (placed_cell layout.order start index)) (sym its.can.entry.place_is) ∙ is in
        let same : placed_cell layout.order start index place ≡ cell = same_Some (placed_cell layout.order start index place) cell both in
        sym (ap (λ (d : Cell). d.width) same) ∙ ap width_bits (same_width c.spec.base old layout fit.image.layout_is.numbers write.path.field its.field place its.declared its.can.entry.place_is)

  -- cells of writes that may stand beside each other
  cells_apart : (v w : Write) (p q : Cell) → MayStandBeside c.spec.base v w → IsIn v c.update.writes → IsIn w c.update.writes → written_cell layout step v ≡ Some p → written_cell layout step w ≡ Some q → AreCellsApart p q
  cells_apart v w p q beside one two first second =
      in_other_fields c.spec.base old layout fit.image.typed.base fit.image.layout_is.numbers step.elem v.path.field w.path.field (written_index step v) (written_index step w) p q beside.different
      (related_lines c.spec.base v.path.field.structure w.path.field.structure beside.related)
      (write_entry v one p first) (write_entry w two q second)

  -- ---- what stays

  -- the reset leaves a cell outside of the fresh record's slot
  pub reset_leaves : (cell : Cell) → IsFieldCell cell → ((e : Element) → step.fresh ≡ Some e → (d : Cell) → LiesInSlot layout e d → AreCellsApart cell d) → cell_value between cell ≡ cell_value old cell
  reset_leaves cell form apart = elim step.fresh as (λ o. step.fresh ≡ o → MatchOption o (between ≡ old) (λ e. ArePut (reset_puts c.spec.base layout e) old between) → cell_value between cell ≡ cell_value old cell) [
    | None ↦ λ _ same. ap (λ bytes. cell_value bytes cell) same
    | Some e ↦ λ is puts.
        let resets : CanReset c.spec layout e (length old) = record { typed = fit.image.typed; image = old; layout_is = fit.image.layout_is; as_long = refl; small = fit.image.small; slot = (fit.fresh e is).1 } in
        puts_leave cell form (reset_puts c.spec.base layout e) old between (reset_clear c.spec layout e (length old) resets cell (apart e is)) puts
  ] refl fit.stepped.reset

  -- the writes leave a cell that is apart from theirs
  pub step_leaves : (cell : Cell) → IsFieldCell cell → ((e : Element) → step.fresh ≡ Some e → (d : Cell) → LiesInSlot layout e d → AreCellsApart cell d) → ((v : Write) → IsIn v c.update.writes → (d : Cell) → written_cell layout step v ≡ Some d → AreCellsApart cell d) → cell_value new cell ≡ cell_value old cell
  step_leaves cell form fresh apart = writes_leave cell form c.update.writes between new apart fit.stepped.written ∙ reset_leaves cell form fresh

  -- of the written record the reset leaves all
  pub beside_fresh : (cell : Cell) → Lies step.elem cell → (e : Element) → step.fresh ≡ Some e → (d : Cell) → LiesInSlot layout e d → AreCellsApart cell d
  beside_fresh cell lies e is d slot =
      beside_slot c.spec old layout fit.image.layout_is fit.image.typed legal step.elem e cell d (λ same. (fit.fresh e is).2 (sym same)) lies slot

  -- ---- what writes leave

  left_of : (writes : List Write) (now : List ℕ) → ((w : Write) → IsIn w writes → IsIn w c.update.writes) → MayStandTogether c.spec.base writes → ((w : Write) → IsIn w writes → (d : Cell) → written_cell layout step w ≡ Some d → cell_value now d ≡ cell_value between d) → AreWritten c.spec layout step writes now new → (write : Write) → IsIn write writes → IsLeftFrom c layout step between new write
  left_of [] now among together same written write is_in = absurd is_in
  left_of (v ∷ rest) now among together same (skipped w cell n at is wanted written) write (inl here) =
      let after : cell_value new cell ≡ cell_value now cell = writes_leave cell (write_form v (among v (inl refl)) cell at) rest now new (λ x later d its. cells_apart v x cell d (first_beside c.spec.base v rest together x later) (among v (inl refl)) (among x (inr later)) at its) written in
      let before : cell_value now cell ≡ cell_value between cell = same v (inl refl) cell at in
      subst (IsLeftFrom c layout step between new) (sym here) (record {
        cell = cell;
        number = n;
        cell_is = at;
        number_is = is;
        holds = inr (after ∙ before, subst (IsWanted c.spec layout v n) before wanted);
      })
  left_of (v ∷ rest) now among together same (made w cell n at is unwanted put written) write (inl here) =
      let after = writes_leave cell (write_form v (among v (inl refl)) cell at) rest _ new (λ x later d its. cells_apart v x cell d (first_beside c.spec.base v rest together x later) (among v (inl refl)) (among x (inr later)) at its) written in
      subst (IsLeftFrom c layout step between new) (sym here) (record { cell = cell; number = n; cell_is = at; number_is = is; holds = inl (after ∙ put.puts.got) })
  left_of (v ∷ rest) now among together same (skipped w cell n at is wanted written) write (inr later) =
      left_of rest now (λ x i. among x (inr i)) (rest_together c.spec.base v rest together) (λ x i. same x (inr i)) written write later
  left_of (v ∷ rest) now among together same (made w cell n at is unwanted put written) write (inr later) =
      left_of rest _ (λ x i. among x (inr i)) (rest_together c.spec.base v rest together)
      (λ x i d its.
      put.beside d (write_form x (among x (inr i)) d its) (turned cell d (cells_apart v x cell d (first_beside c.spec.base v rest together x i) (among v (inl refl)) (among x (inr i)) at its))
      ∙ same x (inr i) d its)
      written write later

  pub left_from : (write : Write) → IsIn write c.update.writes → IsLeftFrom c layout step between new write
  left_from = left_of c.update.writes between (λ w i. i) fit.together (λ w i d is. refl) fit.stepped.written

  -- ---- as it is judged

  pub told : AreTold layout
  told = none_told layout legal

  module _ (write : Write) (is_in : IsIn write c.update.writes) where
    abbrev its : IsFitWrite c layout step write
    its = fit.writes write is_in

    abbrev left : IsLeftFrom c layout step between new write
    left = left_from write is_in

    abbrev pool : Option ℕ
    pool = kind_pool its.field.kind

    pub refers : referred_pool c.spec write.path.field ≡ pool
    refers = ap (option_and_then (λ (f : Field). kind_pool f.kind)) its.declared

    abbrev after : ℕ
    after = cell_value new left.cell

    before_is : cell_value between left.cell ≡ cell_value old left.cell
    before_is = reset_leaves left.cell (write_form write is_in left.cell left.cell_is) (beside_fresh left.cell (write_lies write is_in left.cell left.cell_is))

    abbrev HasWanted : ℕ → Type 0
    HasWanted x = IsWanted c.spec layout write left.number x

    after_wanted : HasWanted after
    after_wanted = elim left.holds as (λ _. HasWanted after) [
      | inl is ↦ subst HasWanted (sym is) (its.serves left.number left.number_is)
      | inr stays ↦ subst HasWanted (sym stays.0) stays.1
    ]

    after_fits : after < 2 ^ left.cell.width
    after_fits = elim left.holds as (λ _. after < 2 ^ left.cell.width) [
      | inl is ↦ subst (λ n. n < 2 ^ left.cell.width) (sym is) (number_fits write is_in left.cell left.cell_is left.number left.number_is)
      | inr stays ↦ subst (λ n. n < 2 ^ left.cell.width) (sym (stays.0 ∙ before_is)) (value_fits old fit.image.bytes left.cell (write_form write is_in left.cell left.cell_is))
    ]

    abbrev Small : ℕ → Type 0
    Small n = n < 2 ^ width_bits its.field.width

    in_field : (n : ℕ) → n < 2 ^ left.cell.width → Small n
    in_field n = subst (λ w. n < 2 ^ w) (width_is write is_in left.cell left.cell_is)

    picked_is : Picked c.spec layout step write.path.field its.field refers write.pick left.number
    picked_is = picked c.spec layout step write.path.field its.field refers write.pick left.number its.picks left.number_is (in_field left.number (number_fits write is_in left.cell left.cell_is left.number left.number_is))

    abbrev LeftAs : Type 0
    LeftAs = (v : CellValue) × StandsFor layout pool after v × Leaves c write v

    leaves_by : (removes : Bool) → is_removal c.goal ≡ removes → (v : CellValue) → MayLeave its.field removes write v → Leaves c write v
    leaves_by removes is v may = and_some (declared_field c.spec.base write.path.field) (λ field. MayLeave field (is_removal c.goal) write v) its.field its.declared (subst (λ b. MayLeave its.field b write v) (sym is) may)

    -- a removal's write leaves the number that it picks
    pub removed : is_removal c.goal ≡ true → after ≡ left.number
    removed removes = elim left.holds as (λ _. after ≡ left.number) [
      | inl is ↦ is
      | inr stays ↦
          let was = subst HasWanted before_is stays.1 in
          stays.0 ∙ (before_is ∙ fit.removal removes write is_in left.cell left.number left.cell_is left.number_is was)
    ]

    -- what a write leaves it may leave
    pub left_as : LeftAs
    left_as = elim (is_removal c.goal) as (λ b. is_removal c.goal ≡ b → LeftAs) [
      | true ↦ λ removes. (picked_is.0, subst (λ n. StandsFor layout pool n picked_is.0) (sym (removed removes)) picked_is.1, leaves_by true removes picked_is.0 picked_is.2)
      | false ↦ λ keeps.
          let w = wanted_left c.spec layout step write.path.field its.field refers told write.pick write.wants left.number after its.tests picked_is (in_field after after_fits) (subst (λ o. MatchOption write.wants (after ≡ left.number) (λ want. MatchBool want.1 (Meets layout o want.0 after) (Meets layout o want.0 after → ⊥))) refers after_wanted) in
          (w.0, w.1, leaves_by false keeps w.0 w.2)
    ] refl
