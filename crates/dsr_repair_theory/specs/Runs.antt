-- Runs of steps, each the one that is due on what the ones before left.
use Rattle.std.specs.Prelude.{◌≡◌, ℕ, List, [], ◌∷◌, ◌++◌}
use Rattle.dsr_ir.specs.declared.declarations.Spec.{Spec}
use Rattle.dsr_ir.specs.declared.layouts.Layout.{Layout}
use Rattle.dsr_ir.specs.declared.updates.Update.{Update}
use Rattle.dsr_plan_theory.specs.declared.choices.Choice.{Choice}
use Rattle.dsr_step_theory.specs.declared.steps.Step.{Step}
use Rattle.dsr_repair_theory.specs.Entries.{IsEntryOf}
use Rattle.dsr_repair_theory.specs.Turns.{IsDueStep, IsOutcome}
use Rattle.dsr_repair_theory.specs.declared.entries.Entry.{Entry}
use Rattle.dsr_repair_theory.specs.declared.turns.Outcome.{Outcome}

-- the step that is due makes the old bytes the new ones, and this tells it
pub record IsDueEntry (spec : Spec) (choice : Choice) (layout : Layout) (old : List ℕ)
    (entry : Entry) (new : List ℕ) : Type 0 where
  pub step : Step
  pub update : Update
  pub due : IsDueStep spec choice layout old step update
  pub made : IsEntryOf spec layout step update old new entry

-- steps lead from the first bytes to the last, each the one that is due on what the ones before
-- left
pub data IsPartRun (spec : Spec) (choice : Choice) (layout : Layout) :
    List ℕ → List Entry → List ℕ → Type 0 where
  begins : {bytes : List ℕ} → IsPartRun spec choice layout bytes [] bytes
  goes_on :
      {old middle new : List ℕ} {entries : List Entry} → (entry : Entry)
      → IsPartRun spec choice layout old entries middle
      → IsDueEntry spec choice layout middle entry new
      → IsPartRun spec choice layout old (entries ++ entry ∷ []) new

-- they lead to where no step is left
pub record IsRun (spec : Spec) (choice : Choice) (layout : Layout) (old : List ℕ)
    (entries : List Entry) (new : List ℕ) (outcome : Outcome) : Type 0 where
  pub steps : IsPartRun spec choice layout old entries new
  pub ends : IsOutcome spec choice layout new outcome
