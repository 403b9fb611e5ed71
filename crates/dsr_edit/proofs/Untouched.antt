-- A put into the cell of a write leaves all that an instance reads, where a step by an update of the
-- write's field at its record and entry doesn't touch that.
use Rattle.std.proofs.Common.{◌≡◌, ◌≢◌, ◌<◌, ◌+◌, ◌⊎◌, ◌∙◌, ℕ, Bool, true, false, not, List, [], ◌∷◌, Some, inl, inr, refl, sym, ap, subst, arith}
use Rattle.std.specs.Prelude.{IsTrue, option_map, ◌&&◌, if◌then◌else◌}
use Rattle.std.proofs.lemmas.Bool.{and_parts, false≢true, not-false, not-true, or_parts}
use Rattle.dsr_affected_laws.proofs.Unmoved.{in_line_of_head, only_head as only_head_of}
use Rattle.dsr_affected_laws.specs.Differing.{IsCellAt}
use Rattle.dsr_edit.proofs.Entries.{cell_at}
use Rattle.dsr_edit.proofs.Made.{alike, layout_laid_out}
use Rattle.dsr_edit.specs.Edits.{AreMade, MayWrite, entry_of}
use Rattle.dsr_edit.specs.Edits.AreMade.{done, made}
use Rattle.dsr_edit.specs.Updates.{IsStepOf, IsUpdateOf}
use Rattle.dsr_edit.specs.declared.groups.CellWrite.{CellWrite}
use Rattle.dsr_effect_laws.proofs.Resetting.{same_place}
use Rattle.dsr_effect_laws.proofs.RulePaths.{path_typed}
use Rattle.dsr_effect_laws.proofs.Slots.{LiesIn, entries_apart, entry_lies, records_apart}
use Rattle.dsr_effect_laws.proofs.WrittenFields.{field_same, found_in, no_some, not_found, same_field, some_of, some_there}
use Rattle.dsr_effect_laws.proofs.Writes.{entry_form}
use Rattle.dsr_effect_laws.specs.Leaving.{IsSameAt}
use Rattle.dsr_ir.specs.declared.declarations.FieldRef.{FieldRef}
use Rattle.dsr_ir.specs.declared.declarations.Spec.{Spec}
use Rattle.dsr_ir.specs.declared.layouts.Cell.{Cell}
use Rattle.dsr_ir.specs.declared.layouts.Layout.{Layout}
use Rattle.dsr_ir.specs.declared.rules.Path.{Path}
use Rattle.dsr_ir.specs.declared.rules.Rule.{Rule}
use Rattle.dsr_ir.specs.declared.tuples.Element.{Element}
use Rattle.dsr_ir.specs.declared.tuples.Instance.{Instance}
use Rattle.dsr_ir.specs.declared.updates.Update.{Update}
use Rattle.dsr_ir.specs.declared.updates.Write.{Write}
use Rattle.dsr_layout_laws.proofs.Fields.{in_other_fields}
use Rattle.dsr_layout_laws.specs.Entries.{IsEntry}
use Rattle.dsr_leaf_laws.specs.Touched.{IsTouched, IsUnmoved, LeavesUntouched, touching}
use Rattle.dsr_meaning.proofs.Items.{item_at, none_of, of_all}
use Rattle.dsr_meaning.specs.Cells.{cell_value, placed_cell, record_start, value_at}
use Rattle.dsr_meaning.specs.Counting.{IsIn}
use Rattle.dsr_meaning.specs.Instances.{IsInstance, record_count}
use Rattle.dsr_meaning.specs.Legal.{IsLegalLayout}
use Rattle.dsr_meaning.specs.Lists.{any_of}
use Rattle.dsr_meaning.specs.Typed.{Descends, IsTyped, IsTypedPath, IsTypedRule, premise_structure}
use Rattle.dsr_meaning.specs.Writes.{AreCellsApart}
use Rattle.dsr_model_laws.proofs.Instances.{elements}
use Rattle.dsr_model_laws.proofs.Listed.{numbers}
use Rattle.dsr_resolve.proofs.Entries.{path_has_entry}
use Rattle.dsr_step_laws.proofs.HeadRules.{no_set, only_head}
use Rattle.dsr_step_laws.proofs.Related.{in_line, related_lines}
use Rattle.dsr_step_theory.specs.Images.{IsImageOf}
use Rattle.dsr_step_theory.specs.Puts.{IsPut}
use Rattle.dsr_step_theory.specs.declared.steps.Step.{Step}
use Rattle.dsr_update_theory.specs.Changes.{Change, are_related, is_at_entry, is_foreign, is_touched, is_written, paths_of, reads_touched, write_to}
use Rattle.dsr_update_theory.specs.Templates.{is_same_field}

-- ---- the fields that an update of one field touches

module _ (spec : Spec) (field : FieldRef) (update : Update) (of : IsUpdateOf field update) where
  abbrev c : Change
  c = touching spec update

  its_own : IsIn of.write update.writes
  its_own = subst (IsIn of.write) (sym of.alone) (inl refl)

  only_own : (w : Write) → IsIn w update.writes → w ≡ of.write
  only_own w among = elim (subst (IsIn w) of.alone among) as (λ _. w ≡ of.write) [
    | inl same ↦ same
    | inr none ↦ absurd none
  ]

  written_is : (other : FieldRef) → is_written c other ≡ true → other ≡ field
  written_is other is =
      let w = some_there (write_to update.writes other) is in
      let found = found_in (λ x. is_same_field x.path.field other) update.writes w.0 w.1 in
      sym (field_same w.0.path.field other found.1) ∙ (ap (λ (x : Write). x.path.field) (only_own w.0 found.0) ∙ of.field_is)

  -- an untouched field is another one, of a structure that is related
  record IsStill (other : FieldRef) : Type 0 where
    differs : other ≢ field
    related : IsTrue (are_related spec.base other.structure field.structure)

  still : (other : FieldRef) → is_touched c other ≡ false → IsStill other
  still other untouched =
      let parts = or_parts (is_written c other) (is_foreign c other) untouched in
      let unwritten = no_some (write_to update.writes other) parts.0 in
      let fails = not_found (λ w. is_same_field w.path.field other) update.writes unwritten of.write its_own in
      record {
        differs = λ same. false≢true (sym fails ∙ same_field of.write.path.field other (of.field_is ∙ sym same));
        related = subst (λ (f : FieldRef). IsTrue (are_related spec.base other.structure f.structure)) of.field_is
            (not-false (are_related spec.base other.structure of.write.path.field.structure)
            (none_of (λ w. not (are_related spec.base other.structure w.path.field.structure)) update.writes parts.1 of.write its_own));
      }

-- ---- a put

module _ (spec : Spec) (layout : Layout) (old new : List ℕ) (image : IsImageOf spec layout old) (write : CellWrite) (d : Cell) (may : MayWrite spec layout write d) (put : IsPut d write.value old new) where
  abbrev typed : IsTyped spec
  typed = image.typed

  legal : IsLegalLayout layout
  legal = (layout_laid_out spec layout old image).legal

  abbrev Lies : Element → Cell → Type 0
  Lies e cell = LiesIn spec old layout image.layout_is image.typed legal e cell

  abbrev group : List CellWrite
  group = write ∷ []

  one_made : AreMade spec layout group old new
  one_made = made write d may put done

  at : IsCellAt spec layout write.elem write.field (entry_of write) d
  at = cell_at spec old layout image.layout_is image.typed write d may

  write_lies : Lies write.elem d
  write_lies =
      let but = alike spec layout old new image group one_made in
      let fields : List FieldRef = write.field ∷ [] in
      entry_lies spec old layout image.layout_is image.typed legal write.elem write.field may.field (entry_of write) d
      (only_head_of spec layout fields old new but write.elem write.field.structure at.of_record) may.names.is_field.declared
      (in_line_of_head spec layout fields old new but write.elem write.field.structure at.of_record) at.entry

  -- what an instance reads
  module _ (i : Instance) (rule : Rule) (instance : IsInstance spec layout i rule) where
    of_rule : IsTypedRule spec.base rule
    of_rule = of_all (IsTypedRule spec.base) spec.rules rule typed.rules (item_at spec.rules i.rule rule instance.rule_is)

    module _ (path : Path) (among : IsIn path (paths_of rule)) where
      its_path : IsTypedPath spec.base rule path
      its_path = path_typed spec rule of_rule path among

      abbrev index : ℕ
      index = if path.indexed then i.index else 0

      -- the cell that is read
      record IsCell : Type 0 where
        cell : Cell
        entry : IsEntry layout i.elem path.field index cell

      its_cell : IsCell
      its_cell =
          let has = path_has_entry spec old layout image.layout_is typed i rule instance of_rule path its_path in
          record { cell = placed_cell layout.order (record_start layout i.elem) index has.place; entry = record { entry = has; cell_is = ap (option_map (placed_cell layout.order (record_start layout i.elem) index)) has.place_is } }

      abbrev cell : Cell
      cell = its_cell.cell

      of_head : i.elem.pool ≡ 0 → Descends spec.base.structures spec.base.head path.field.structure
      of_head none =
          let premise = no_set spec typed rule.premise of_rule.premise (sym instance.pool_is ∙ none) in
          subst (λ o. Descends spec.base.structures (premise_structure spec.base o) path.field.structure) premise its_path.is_field.of_record

      lies : Lies i.elem cell
      lies = entry_lies spec old layout image.layout_is typed legal i.elem path.field its_path.field index cell (λ none. only_head layout i.elem (record { pool_is = none; slot_below = subst (λ p. i.elem.slot < record_count layout p) (sym instance.pool_is ∙ none) instance.slot_below })) its_path.is_field.declared of_head its_cell.entry

      value_is : (bytes : List ℕ) → value_at layout bytes i.elem i.index path ≡ Some (cell_value bytes cell)
      value_is bytes = ap (option_map (cell_value bytes)) its_cell.entry.cell_is

      beside : AreCellsApart cell d → IsSameAt layout old new i path
      beside apart = value_is new ∙ (ap Some (put.beside cell (entry_form layout i.elem path.field index cell legal its_cell.entry) apart) ∙ sym (value_is old))

      elsewhere : i.elem ≢ write.elem → IsSameAt layout old new i path
      elsewhere away = beside (records_apart spec old layout image.layout_is typed legal i.elem write.elem cell d away lies write_lies)

      module _ (here : i.elem ≡ write.elem) where
        entry_here : IsEntry layout write.elem path.field index cell
        entry_here = subst (λ e. IsEntry layout e path.field index cell) here its_cell.entry

        other_field : path.field ≢ write.field → Descends spec.base.structures path.field.structure write.field.structure ⊎ Descends spec.base.structures write.field.structure path.field.structure → IsSameAt layout old new i path
        other_field other lines = beside (in_other_fields spec.base old layout typed.base image.layout_is.numbers write.elem path.field write.field index (entry_of write) cell d other lines entry_here at.entry)

        other_entry : path.field ≡ write.field → index ≢ entry_of write → IsSameAt layout old new i path
        other_entry same other = beside (entries_apart layout write.elem write.field index (entry_of write) cell d other (subst (λ f. IsEntry layout write.elem f index cell) same entry_here) at.entry)

    module _ (update : Update) (of : IsUpdateOf write.field update) (here : i.elem ≡ write.elem) where
      abbrev its : Change
      its = touching spec update

      untouched : (path : Path) → IsIn path (paths_of rule) → is_touched its path.field ≡ false → IsSameAt layout old new i path
      untouched path among none =
          let s = still spec write.field update of path.field none in
          other_field path among here s.differs (related_lines spec.base path.field.structure write.field.structure s.related)

      none_read : reads_touched its rule ≡ false → IsUnmoved layout old new i rule
      none_read none path among = untouched path among (none_of (λ (p : Path). is_touched its p.field) (paths_of rule) none path among)

      -- where the rule reads the written field at its index, what else it reads is in one line with that
      in_line_with : is_at_entry its rule ≡ true → (path : Path) → IsIn path (paths_of rule) → Descends spec.base.structures path.field.structure write.field.structure ⊎ Descends spec.base.structures write.field.structure path.field.structure
      in_line_with entry path among =
          let first = (and_parts (any_of (λ p. p.indexed && is_written its p.field) (paths_of rule)) (not (any_of (λ p. not p.indexed && is_touched its p.field) (paths_of rule))) entry).0 in
          let p = some_of (λ (p : Path). p.indexed && is_written its p.field) (paths_of rule) first in
          let field : p.0.field ≡ write.field = written_is spec write.field update of p.0.field (and_parts p.0.indexed (is_written its p.0.field) p.2).1 in
          let top = premise_structure spec.base rule.premise in
          subst (λ (f : FieldRef). Descends spec.base.structures path.field.structure f.structure ⊎ Descends spec.base.structures f.structure path.field.structure) field
          (in_line spec.base typed.base (top + 1) top (omega arith) path.field.structure p.0.field.structure (its_path path among).is_field.of_record (its_path p.0 p.1).is_field.of_record)

      indexed_by : (a b : Bool) → (not a && b) ≡ false → b ≡ true → a ≡ true
      indexed_by true b e t = refl
      indexed_by false b e t = absurd (false≢true (sym e ∙ t))

      other_index : is_at_entry its rule ≡ true → i.index ≢ entry_of write → IsUnmoved layout old new i rule
      other_index entry other path among = elim (is_touched its path.field) as (λ b. is_touched its path.field ≡ b → IsSameAt layout old new i path) [
        | false ↦ λ none. untouched path among none
        | true ↦ λ touched.
            let none = not-true (any_of (λ p. not p.indexed && is_touched its p.field) (paths_of rule)) (and_parts (any_of (λ p. p.indexed && is_written its p.field) (paths_of rule)) (not (any_of (λ p. not p.indexed && is_touched its p.field) (paths_of rule))) entry).1 in
            let fails = none_of (λ (p : Path). not p.indexed && is_touched its p.field) (paths_of rule) none path among in
            let indexed = indexed_by path.indexed (is_touched its path.field) fails touched in
            let own : index path among ≡ i.index = ap (λ b. if b then i.index else 0) indexed in
            elim (same_place path.field write.field) as (λ _. IsSameAt layout old new i path) [
              | inl same ↦ other_entry path among here same (λ q. other (sym own ∙ q))
              | inr differ ↦ other_field path among here differ (in_line_with entry path among)
            ]
      ] refl

  module _ (update : Update) (of : IsUpdateOf write.field update) (step : Step) (is : IsStepOf write step) where
    abbrev change : Change
    change = touching spec update

    at_record : (i : Instance) (rule : Rule) → IsInstance spec layout i rule → i.elem ≡ write.elem → IsUnmoved layout old new i rule ⊎ IsTouched change step i rule
    at_record i rule instance here = elim (reads_touched change rule) as (λ b. reads_touched change rule ≡ b → IsUnmoved layout old new i rule ⊎ IsTouched change step i rule) [
      | false ↦ λ none. inl (none_read i rule instance update of here none)
      | true ↦ λ reads. by_entry reads
    ] refl where
      touched : IsTrue (reads_touched change rule) → (is_at_entry change rule ≡ true → i.index ≡ step.index) → IsTouched change step i rule
      touched reads entry = record { rule_is = instance.rule_is; by = inl (record { at = here ∙ sym is.elem; reads = reads; entry = entry }) }

      by_entry : IsTrue (reads_touched change rule) → IsUnmoved layout old new i rule ⊎ IsTouched change step i rule
      by_entry reads = elim (numbers i.index (entry_of write)) as (λ _. IsUnmoved layout old new i rule ⊎ IsTouched change step i rule) [
        | inl same ↦ inr (touched reads (λ _. same ∙ sym is.index))
        | inr other ↦ elim (is_at_entry change rule) as (λ b. is_at_entry change rule ≡ b → IsUnmoved layout old new i rule ⊎ IsTouched change step i rule) [
          | true ↦ λ entry. inl (other_index i rule instance update of here entry other)
          | false ↦ λ none. inr (touched reads (λ entry. absurd (false≢true (sym none ∙ entry))))
        ] refl
      ]

    pub put_leaves : LeavesUntouched change layout step old new
    put_leaves i rule instance = elim (elements i.elem write.elem) as (λ _. IsUnmoved layout old new i rule ⊎ IsTouched change step i rule) [
      | inl here ↦ at_record i rule instance here
      | inr away ↦ inl (λ path among. elsewhere i rule instance path among away)
    ]
