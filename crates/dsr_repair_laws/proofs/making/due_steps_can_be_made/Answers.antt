use Rattle.dsr_repair_laws.proofs.MakingSteps.{can_step}
use Rattle.dsr_repair_laws.proofs.making.due_steps_can_be_made.Goals as goal

pub returns : goal.returns
returns c = can_step
