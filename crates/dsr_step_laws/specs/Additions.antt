-- A step that adds by a rule.
use Rattle.std.specs.Prelude.{◌≡◌, ℕ, List, Option, Some}
use Rattle.dsr_ir.specs.declared.declarations.Spec.{Spec}
use Rattle.dsr_ir.specs.declared.layouts.Layout.{Layout}
use Rattle.dsr_ir.specs.declared.rules.Rule.{Rule}
use Rattle.dsr_ir.specs.declared.rules.Span.TheVariants.{Single}
use Rattle.dsr_ir.specs.declared.tuples.Instance.{Instance}
use Rattle.dsr_ir.specs.declared.updates.Update.{Update}
use Rattle.dsr_ir.specs.declared.updates.Write.{Write}
use Rattle.dsr_meaning.specs.Counting.{IsIn}
use Rattle.dsr_meaning.specs.Instances.{IsInstance}
use Rattle.dsr_step_theory.specs.Steps.{CanStep}
use Rattle.dsr_step_theory.specs.declared.steps.Step.{Step}
use Rattle.dsr_update_theory.specs.Together.{MayStandTogether}

-- the instance at the record and the entry that are written
abbrev pub written_instance : Step → Instance
written_instance step = record { rule = step.rule; elem = step.elem; index = step.index }

-- the step can be made in an image of so many bytes, at an instance of a rule without index; its
-- update has all writes by which the rule adds, and maybe others beside which these may stand
pub record IsAddition (spec : Spec) (layout : Layout) (step : Step) (update : Update) (rule : Rule)
    (adding : Option (List Write)) (bytes : ℕ) : Type 0 where
  pub can : CanStep spec layout step update bytes
  pub instance : IsInstance spec layout (written_instance step) rule
  pub single : rule.span ≡ Single
  pub writes : List Write
  pub adds : adding ≡ Some writes
  pub among : (write : Write) → IsIn write writes → IsIn write update.writes
  pub together : MayStandTogether spec.base update.writes
