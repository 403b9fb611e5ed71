-- The entries of a run are taken back.
use Rattle.std.proofs.Common.{◌≡◌, ◌<◌, ◌+◌, ◌∙◌, ℕ, List, [], ◌∷◌, ◌++◌, Option, None, Some, length, sym, subst, ap}
use Rattle.std.specs.Prelude.{IfSome, MatchOption}
use Rattle.dsr_ir.specs.declared.declarations.Spec.{Spec}
use Rattle.dsr_ir.specs.declared.declarations.Structures.{Structures}
use Rattle.dsr_ir.specs.declared.layouts.Cell.{Cell}
use Rattle.dsr_ir.specs.declared.layouts.Layout.{Layout}
use Rattle.dsr_meaning.specs.Cells.{bit_of}
use Rattle.dsr_meaning.specs.FixedFields.{fixed_cell}
use Rattle.dsr_meaning.specs.Writes.{HasSameBits, IsBitOf}
use Rattle.dsr_plan_theory.specs.Plans.{IsPlan}
use Rattle.dsr_plan_theory.specs.declared.choices.Choice.{Choice}
use Rattle.dsr_repair_laws.proofs.Clear.{puts_as_long, writes_as_long}
use Rattle.dsr_repair_laws.proofs.Told.{was_stepped}
use Rattle.dsr_repair_theory.specs.Runs.{IsDueEntry, IsPartRun}
use Rattle.dsr_repair_theory.specs.Runs.IsPartRun.{begins, goes_on}
use Rattle.dsr_repair_theory.specs.declared.entries.Entry.{Entry}
use Rattle.dsr_run_laws.proofs.RunOnce.{run_keeps, step_keeps_fixed}
use Rattle.dsr_step_theory.specs.Images.{FixedFieldsStay, IsImageOf}
use Rattle.dsr_step_theory.specs.Puts.{ArePut}
use Rattle.dsr_step_theory.specs.Resets.{reset_puts}
use Rattle.dsr_step_theory.specs.Steps.{IsStepped}
use Rattle.dsr_undo_laws.proofs.Lines.{changes_back}
use Rattle.dsr_undo_laws.specs.TakingBack.{AreLinesBack, AreTakenBack}
use Rattle.dsr_undo_laws.specs.TakingBack.AreTakenBack.{none, then_entry}

-- one entry more at the end is the first that is taken back
pub last_back : {base : Structures} (entries : List Entry) (entry : Entry) (bytes middle new : List ℕ) → AreLinesBack base entry.bytes bytes middle → AreTakenBack base entries middle new → AreTakenBack base (entries ++ entry ∷ []) bytes new
last_back [] entry bytes middle new lines none = then_entry entry none lines
last_back (e ∷ entries) entry bytes middle new lines (then_entry _ rest own) =
    then_entry e (last_back entries entry bytes middle _ lines rest) own

-- each bit of a fixed field stays
each_stays : (base : Structures) (old new : List ℕ) → FixedFieldsStay base old new → (k : ℕ) (cell : Cell) → fixed_cell base k ≡ Some cell → (j : ℕ) → IsBitOf cell.bit cell.width j → bit_of new j ≡ bit_of old j
each_stays base old new stay k cell is j of =
    subst (λ o. IfSome o (λ c. HasSameBits c old new)) is (stay k) j of.from of.before

module _ (spec : Spec) (choice : Choice) (layout : Layout) (plan : IsPlan spec choice) where
  module _ (old new : List ℕ) (entry : Entry) (image : IsImageOf spec layout old) (due : IsDueEntry spec choice layout old entry new) where
    stepped : IsStepped spec layout due.step due.update old new
    stepped = was_stepped spec layout due.step due.update old new entry due.made

    pub as_long : length new ≡ length old
    as_long =
        let reset : length stepped.between ≡ length old = elim due.step.fresh as (λ o. MatchOption o (stepped.between ≡ old) (λ e. ArePut (reset_puts spec.base layout e) old stepped.between) → length stepped.between ≡ length old) [
          | None ↦ λ same. ap length same
          | Some e ↦ λ puts. puts_as_long (reset_puts spec.base layout e) old stepped.between puts
        ] stepped.reset in
        writes_as_long due.update.writes stepped.between new stepped.written ∙ reset

    -- a step's entry is taken back
    pub entry_back : AreLinesBack spec.base entry.bytes new old
    entry_back =
        subst (λ lines. AreLinesBack spec.base lines new old) (sym due.made.bytes)
        (changes_back spec.base old new
        (each_stays spec.base old new (step_keeps_fixed spec choice layout plan old new entry image due)) as_long)

  -- and those of a run
  pub run_back : (old new : List ℕ) (entries : List Entry) → IsImageOf spec layout old → IsPartRun spec choice layout old entries new → AreTakenBack spec.base entries new old
  run_back old _ _ image begins = none
  run_back old new _ image (goes_on {middle = middle} {entries = before} entry run due) =
      last_back before entry new middle old (entry_back middle new entry (run_keeps spec choice layout plan old middle before image run) due) (run_back old middle before image run)
