use Rattle.dsr_plan_theory.proofs.Descent.{no_member}
use Rattle.dsr_meaning.specs.Counting.{IsIn}
use Rattle.dsr_plan_theory.proofs.laws.stuck_sets_leave_no_plan.Goals as goal

pub returns : goal.returns
returns c = λ spec members choice n stuck member plan. no_member spec (λ m. IsIn m members) choice stuck plan n member
