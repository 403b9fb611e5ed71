-- Whether a specification has a plan, and the answer that tells it.
use Rattle.std.specs.Prelude.{◌≡◌}
use Rattle.dsr_ir.specs.declared.declarations.Spec.{Spec}
use Rattle.dsr_command_plan.specs.Levels.{accepted_answer}
use Rattle.dsr_command_plan.specs.StuckTexts.{refused_answer}
use Rattle.dsr_command_plan.specs.declared.plans.Found.{Found}
use Rattle.dsr_command_plan.specs.declared.plans.Found.TheVariants.{Plan, Stuck}
use Rattle.dsr_plan_theory.specs.StuckSets.{HasNoPlan, IsStuckSet}
use Rattle.dsr_plan_theory.specs.Taken.{IsTaken}
use Rattle.dsr_script.specs.Scripts.{Answer}

-- the plan that is taken; or the largest stuck set, where there is no plan
abbrev pub IsFound : Spec → Found → Type 0
IsFound spec (Plan choice) = IsTaken spec choice
IsFound spec (Stuck set) = IsStuckSet spec set × HasNoPlan spec

abbrev pub answer_of : Spec → Found → Answer
answer_of spec (Plan choice) = accepted_answer spec choice
answer_of spec (Stuck set) = refused_answer spec set

-- the answer tells what is found
pub record IsPlanAnswer (spec : Spec) (answer : Answer) : Type 0 where
  pub found : Found
  pub is : IsFound spec found
  pub told : answer ≡ answer_of spec found
