-- What each of several writes leaves: cells of later writes share no bit with its cell, which so keeps its value.
use Rattle.std.proofs.Common.{◌≡◌, ◌≤◌, ◌∙◌, ◌⊎◌, ℕ, List, [], ◌∷◌, All, Some, inl, inr, refl, sym, ap, subst}
use Rattle.std.specs.Prelude.{option_map}
use Rattle.std.proofs.lemmas.List.Elements.{All-head, All-tail}
use Rattle.std.proofs.lemmas.Option.{same_Some}
use Rattle.dsr_layout_laws.proofs.Fields.{in_other_fields}
use Rattle.dsr_ir.specs.declared.declarations.Spec.{Spec}
use Rattle.dsr_ir.specs.declared.layouts.Cell.{Cell}
use Rattle.dsr_ir.specs.declared.layouts.Layout.{Layout}
use Rattle.dsr_ir.specs.declared.updates.Update.{Update}
use Rattle.dsr_ir.specs.declared.updates.Write.{Write}
use Rattle.dsr_layout.proofs.HeldCells.{cell_form}
use Rattle.dsr_meaning.specs.Cells.{IsFieldCell, cell_value, is_bytewise, placed_cell, record_start, width_bits}
use Rattle.dsr_meaning.specs.Counting.{IsIn}
use Rattle.dsr_meaning.specs.Legal.{IsLegalLayout}
use Rattle.dsr_meaning.specs.Writes.{AreCellsApart}
use Rattle.dsr_resolve.proofs.AcceptedLayouts.{legal_of}
use Rattle.dsr_step_laws.proofs.Beside.{first_beside, rest_together}
use Rattle.dsr_step_laws.proofs.Related.{related_lines}
use Rattle.dsr_step_theory.specs.Steps.{AreWritten, CanStep, CanWrite, IsWanted, written_cell, written_index, written_number}
use Rattle.dsr_step_theory.specs.Steps.AreWritten.{done, made, skipped}
use Rattle.dsr_step_theory.specs.declared.steps.Step.{Step}
use Rattle.dsr_update_theory.specs.Together.{MayStandBeside, MayStandTogether}
use Rattle.dsr_meaning.proofs.Items.{of_all}

-- the cell of a write has the picked number, or a value of which holds what the write wants
pub record IsLeft (spec : Spec) (layout : Layout) (step : Step) (write : Write) (bytes : List ℕ) : Type 0 where
  pub cell : Cell
  pub number : ℕ
  pub cell_is : written_cell layout step write ≡ Some cell
  pub number_is : written_number spec layout step write ≡ Some number
  pub holds : (cell_value bytes cell ≡ number) ⊎ IsWanted spec layout write number (cell_value bytes cell)

module _ (spec : Spec) (layout : Layout) (step : Step) (update : Update) (bytes : ℕ) (can : CanStep spec layout step update bytes) where
  pub step_legal : IsLegalLayout layout
  step_legal = legal_of spec can.image layout can.layout_is can.typed (subst (λ n. n ≤ 67108864) can.as_long can.small)

  -- what is written is a field's cell
  field_cell : (write : Write) (cell : Cell) → CanWrite spec layout step write → written_cell layout step write ≡ Some cell → IsFieldCell cell
  field_cell write cell of is =
      let index = written_index step write in
      let start = record_start layout step.elem in
      let place = of.entry.place in
      let both : Some (placed_cell layout.order start index place) ≡ Some cell = ap (option_map (placed_cell layout.order start index)) (sym of.entry.place_is) ∙ is in
      subst IsFieldCell (same_Some (placed_cell layout.order start index place) cell both)
      (cell_form layout write.path.field place start index (width_bits place.width) (is_bytewise place.width) layout.order step_legal of.entry.place_is refl refl)

  -- cells of writes that may stand beside each other share no bit
  cells_apart : (v w : Write) (c d : Cell) → MayStandBeside spec.base v w → CanWrite spec layout step v → CanWrite spec layout step w → written_cell layout step v ≡ Some c → written_cell layout step w ≡ Some d → AreCellsApart c d
  cells_apart v w c d beside one two first second =
      in_other_fields spec.base can.image layout can.typed.base can.layout_is.numbers step.elem v.path.field w.path.field (written_index step v) (written_index step w) c d beside.different
      (related_lines spec.base v.path.field.structure w.path.field.structure beside.related)
      (record { entry = one.entry; cell_is = first }) (record { entry = two.entry; cell_is = second })

  -- a cell that shares no bit with those that are written keeps its value
  kept : (cell : Cell) → IsFieldCell cell → (writes : List Write) (old new : List ℕ) → ((v : Write) → IsIn v writes → (d : Cell) → written_cell layout step v ≡ Some d → AreCellsApart cell d) → AreWritten spec layout step writes old new → cell_value new cell ≡ cell_value old cell
  kept cell form [] old new apart done = refl
  kept cell form (v ∷ rest) old new apart (skipped w c n at is wanted written) = kept cell form rest old new (λ x later. apart x (inr later)) written
  kept cell form (v ∷ rest) old new apart (made w c n at is unwanted put written) = kept cell form rest _ new (λ x later. apart x (inr later)) written ∙ put.beside cell form (apart v (inl refl) c at)

  -- the first write's cell keeps what that write left
  first_kept : (w : Write) (rest : List Write) (cell : Cell) (old new : List ℕ) → All (CanWrite spec layout step) (w ∷ rest) → MayStandTogether spec.base (w ∷ rest) → written_cell layout step w ≡ Some cell → AreWritten spec layout step rest old new → cell_value new cell ≡ cell_value old cell
  first_kept w rest cell old new all together at written =
      let own = All-head (CanWrite spec layout step) w rest all in
      kept cell (field_cell w cell own at) rest old new (λ v later d is. cells_apart w v cell d (first_beside spec.base w rest together v later) own (of_all (CanWrite spec layout step) rest v (All-tail (CanWrite spec layout step) w rest all) later) at is) written

  pub left_by : (writes : List Write) (old new : List ℕ) → All (CanWrite spec layout step) writes → MayStandTogether spec.base writes → AreWritten spec layout step writes old new → (write : Write) → IsIn write writes → IsLeft spec layout step write new
  left_by [] old new all together written write is_in = absurd is_in
  left_by (v ∷ rest) old new all together (skipped w c n at is wanted written) write (inl same) =
      let keeps = first_kept v rest c old new all together at written in
      subst (λ x. IsLeft spec layout step x new) (sym same) (record {
        cell = c;
        number = n;
        cell_is = at;
        number_is = is;
        holds = inr (subst (IsWanted spec layout v n) (sym keeps) wanted);
      })
  left_by (v ∷ rest) old new all together (made w c n at is unwanted put written) write (inl same) =
      subst (λ x. IsLeft spec layout step x new) (sym same) (record {
        cell = c;
        number = n;
        cell_is = at;
        number_is = is;
        holds = inl (first_kept v rest c _ new all together at written ∙ put.puts.got);
      })
  left_by (v ∷ rest) old new all together (skipped w c n at is wanted written) write (inr later) =
      left_by rest old new (All-tail (CanWrite spec layout step) v rest all) (rest_together spec.base v rest together) written write later
  left_by (v ∷ rest) old new all together (made w c n at is unwanted put written) write (inr later) =
      left_by rest _ new (All-tail (CanWrite spec layout step) v rest all) (rest_together spec.base v rest together) written write later
