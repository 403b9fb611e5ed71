use Rattle.dsr_plan_laws.proofs.OnePlan.{one_plan}
use Rattle.dsr_plan_laws.proofs.plans.taken_plans_are_one.Goals as goal

pub returns : goal.returns
returns c = λ spec choice other taken others. one_plan spec choice other taken others
