-- A repair that ended, with its steps told.
use Rattle.std.specs.Prelude.{◌≡◌, ℕ, List, length}
use Rattle.dsr_command_image.specs.declared.runs.Run.{Run}
use Rattle.dsr_ir.specs.declared.declarations.Spec.{Spec}
use Rattle.dsr_ir.specs.declared.layouts.Layout.{Layout}
use Rattle.dsr_plan_theory.specs.declared.choices.Choice.{Choice}
use Rattle.dsr_repair_theory.specs.Runs.{IsPartRun, IsRun}
use Rattle.dsr_repair_theory.specs.declared.entries.Entry.{Entry}
use Rattle.dsr_report.specs.Reports.{entries_text}

-- due steps lead from the old bytes to the new ones; so many there are, and this text tells them
pub record AreTold (spec : Spec) (choice : Choice) (layout : Layout) (old new : List ℕ)
    (text : List ℕ) (count : ℕ) : Type 0 where
  pub entries : List Entry
  pub steps : IsPartRun spec choice layout old entries new
  pub told : text ≡ entries_text spec entries
  pub counted : count ≡ length entries

-- and no step is left, or a supply is empty
pub record IsToldRun (spec : Spec) (choice : Choice) (layout : Layout) (old : List ℕ)
    (run : Run) : Type 0 where
  pub entries : List Entry
  pub is : IsRun spec choice layout old entries run.image run.outcome
  pub told : run.text.items ≡ entries_text spec entries
  pub counted : run.count ≡ length entries
