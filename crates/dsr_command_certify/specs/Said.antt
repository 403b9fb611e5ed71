-- Choices that a certificate may say.
use Rattle.std.specs.Prelude.{ℕ}
use Rattle.dsr_cert.specs.Certificates.{Fits, NamesWays}
use Rattle.dsr_ir.specs.declared.constraints.Constraint.{Constraint}
use Rattle.dsr_ir.specs.declared.declarations.Spec.{Spec}
use Rattle.dsr_plan_theory.specs.Plans.{IsRowOf, owner_at}
use Rattle.dsr_plan_theory.specs.declared.choices.Choice.{Choice}
use Rattle.dsr_plan_theory.specs.declared.choices.Row.{Row}
use Rattle.dsr_command_certify.specs.LowLevels.{HasLowLevels}

-- a row for each constraint, and in it a way for each literal; levels that can be said; and
-- templates that are listed for literals which aren't `given`
pub record MayBeSaid (spec : Spec) (choice : Choice) : Type 0 where
  pub fits : Fits spec choice
  pub low : HasLowLevels spec choice
  pub named :
      (n : ℕ) (constraint : Constraint) (row : Row) → IsRowOf spec choice n constraint row
      → NamesWays (owner_at spec n constraint) row
