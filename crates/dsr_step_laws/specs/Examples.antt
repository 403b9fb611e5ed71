-- An example of an update that is applied.
use Rattle.std.specs.Prelude.{◌≡◌, ◌⊎◌, ℕ, List}
use Rattle.dsr_ir.specs.declared.declarations.Spec.{Spec}
use Rattle.dsr_ir.specs.declared.layouts.Layout.{Layout}
use Rattle.dsr_ir.specs.declared.tuples.Fact.{Fact}
use Rattle.dsr_ir.specs.declared.updates.Goal.{Goal}
use Rattle.dsr_ir.specs.declared.updates.Template.{Template}
use Rattle.dsr_ir.specs.declared.updates.Update.{Update}
use Rattle.dsr_repair_theory.specs.Applications.{IsApplied}
use Rattle.dsr_repair_theory.specs.Changed.{IsGained, IsLost}
use Rattle.dsr_meaning.specs.Counting.{IsIn}
use Rattle.dsr_step_theory.specs.declared.steps.Step.{Step}
use Rattle.dsr_update_theory.specs.Templates.{AreRawOf}

-- an update of a template that is tried for a literal, for the goal, is applied, and some fact is
-- gained or lost
pub record Example (goal : Goal) : Type 0 where
  pub spec : Spec
  pub template : Template
  pub update : Update
  pub layout : Layout
  pub step : Step
  pub old : List ℕ
  pub new : List ℕ
  pub applied : IsApplied spec template update layout step old new
  pub templates : List Template
  pub tried : AreRawOf spec applied.violated.constraint step.conj step.literal templates
  pub listed : IsIn template templates
  pub goal_is : template.goal ≡ goal
  pub changed :
      (fact : Fact) × (IsGained spec layout old new fact ⊎ IsLost spec layout old new fact)
