-- An update that is applied, and how it is judged.
use Rattle.std.specs.Prelude.{ℕ, List}
use Rattle.dsr_repair_theory.specs.Applications.{IsApplied}
use Rattle.dsr_ir.specs.declared.constraints.Constraint.{Constraint}
use Rattle.dsr_ir.specs.declared.declarations.Spec.{Spec}
use Rattle.dsr_ir.specs.declared.layouts.Layout.{Layout}
use Rattle.dsr_ir.specs.declared.updates.Template.{Template}
use Rattle.dsr_ir.specs.declared.updates.Update.{Update}
use Rattle.dsr_graph_theory.specs.Owners.{Owner, change_of, goal_at}
use Rattle.dsr_plan_theory.specs.Plans.{IsListedAt}
use Rattle.dsr_step_theory.specs.declared.steps.Step.{Step}
use Rattle.dsr_update_theory.specs.Changes.{Change}

-- an update of a template, applied at a violated binding of a constraint: its step makes the old
-- bytes the new ones
pub record Application : Type 0 where
  pub spec : Spec
  pub template : Template
  pub update : Update
  pub layout : Layout
  pub step : Step
  pub old : List ℕ
  pub new : List ℕ
  pub applied : IsApplied spec template update layout step old new

-- the constraint for which the step is made
abbrev pub owner_by : Spec → Step → Constraint → Owner
owner_by spec step constraint =
    record { spec = spec; number = step.constraint; constraint = constraint }

abbrev pub owner_of : Application → Owner
owner_of a = owner_by a.spec a.step a.applied.violated.constraint

-- the update that is made, with the goal that it has at its place in the template
abbrev pub judged : Owner → Template → Update → Step → Change
judged owner template update step = change_of owner (goal_at template.goal step.update) update

abbrev pub change_in : Application → Change
change_in a = judged (owner_of a) a.template a.update a.step

-- the template is the one of this number, counted from 1, among those that are listed for the
-- literal
abbrev pub IsListed : Application → ℕ → Type 0
IsListed a number = IsListedAt (owner_of a) a.step.conj a.step.literal number a.template
