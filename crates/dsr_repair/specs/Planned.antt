-- The update that a plan has for a step.
use Rattle.std.specs.Prelude.{ℕ, Option, None, slice_get}
use Rattle.std.specs.Option.{option_and_then}
use Rattle.dsr_ir.specs.declared.updates.Update.{Update}
use Rattle.dsr_plan_theory.specs.Plans.{way_at}
use Rattle.dsr_plan_theory.specs.declared.choices.Choice.{Choice}
use Rattle.dsr_plan_theory.specs.declared.choices.Way.{Way}
use Rattle.dsr_plan_theory.specs.declared.choices.Way.TheVariants.{Test, By}
use Rattle.dsr_step_theory.specs.declared.steps.Step.{Step}

-- the update with this place in the template of a way
abbrev pub update_in : ℕ → Way → Option Update
update_in n Test = None
update_in n (By number template) = slice_get template.updates n

-- the update that the choice has for a step
abbrev pub chosen_update : Choice → Step → Option Update
chosen_update choice step =
    option_and_then (λ row. option_and_then (update_in step.update) (way_at row step.conj step.literal))
    (slice_get choice.rows step.constraint)
