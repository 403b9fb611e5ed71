-- A write without a wanted test leaves the picked number.
use Rattle.std.proofs.Common.{◌≡◌, ◌∙◌, ℕ, List, [], ◌∷◌, MatchBool, MatchOption, None, Some, refl, sym, ap, subst}
use Rattle.std.proofs.lemmas.Option.{same_Some}
use Rattle.dsr_ir.specs.declared.declarations.Spec.{Spec}
use Rattle.dsr_ir.specs.declared.layouts.Cell.{Cell}
use Rattle.dsr_ir.specs.declared.layouts.Layout.{Layout}
use Rattle.dsr_ir.specs.declared.updates.Update.{Update}
use Rattle.dsr_ir.specs.declared.updates.Write.{Write}
use Rattle.dsr_meaning.specs.Cells.{cell_value}
use Rattle.dsr_meaning.specs.Instances.{Meets, referred_pool}
use Rattle.dsr_step_theory.specs.Steps.{AreWritten, IsStepped, IsWanted, written_cell, written_number}
use Rattle.dsr_step_theory.specs.Steps.AreWritten.{done, made, skipped}
use Rattle.dsr_step_theory.specs.declared.steps.Step.{Step}

module _ (spec : Spec) (layout : Layout) (step : Step) where
  pub nothing_written : (old new : List ℕ) → AreWritten spec layout step [] old new → new ≡ old
  nothing_written old new done = refl

  -- what a write without a test wants is that the value is the number
  wanted_value : (write : Write) (number value : ℕ) → write.wants ≡ None → IsWanted spec layout write number value → value ≡ number
  wanted_value write number value none wanted =
      subst (λ wants. MatchOption wants (value ≡ number)
      (λ want. MatchBool want.1 (Meets layout (referred_pool spec write.path.field) want.0 value)
      (Meets layout (referred_pool spec write.path.field) want.0 value → ⊥)))
      none wanted

  pub one_write : (write : Write) (cell : Cell) (number : ℕ) (old new : List ℕ) → write.wants ≡ None
      → written_cell layout step write ≡ Some cell → written_number spec layout step write ≡ Some number
      → AreWritten spec layout step (write ∷ []) old new → cell_value new cell ≡ number
  one_write write cell number old new none cell_is number_is (skipped w c n at is wanted rest) =
      let same_cell : c ≡ cell = same_Some c cell (sym at ∙ cell_is) in
      let same_number : n ≡ number = same_Some n number (sym is ∙ number_is) in
      ap (λ bytes. cell_value bytes cell) (nothing_written old new rest)
      ∙ (ap (cell_value old) (sym same_cell) ∙ (wanted_value w n (cell_value old c) none wanted ∙ same_number))
  one_write write cell number old new none cell_is number_is (made w c n at is unwanted puts rest) =
      let same_cell : c ≡ cell = same_Some c cell (sym at ∙ cell_is) in
      let same_number : n ≡ number = same_Some n number (sym is ∙ number_is) in
      ap (λ bytes. cell_value bytes cell) (nothing_written _ new rest)
      ∙ (ap (cell_value _) (sym same_cell) ∙ (puts.puts.got ∙ same_number))

  pub set_by_step : (update : Update) (write : Write) (cell : Cell) (number : ℕ) (old new : List ℕ) → update.writes ≡ write ∷ [] → write.wants ≡ None → written_cell layout step write ≡ Some cell
      → written_number spec layout step write ≡ Some number → IsStepped spec layout step update old new
      → cell_value new cell ≡ number
  set_by_step update write cell number old new writes none cell_is number_is stepped =
      one_write write cell number stepped.between new none cell_is number_is
      (subst (λ ws. AreWritten spec layout step ws stepped.between new) writes stepped.written)
