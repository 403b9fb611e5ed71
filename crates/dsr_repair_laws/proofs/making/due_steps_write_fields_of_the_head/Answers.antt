use Rattle.dsr_repair_laws.proofs.MakingSteps.{writes_of_head}
use Rattle.dsr_repair_laws.proofs.making.due_steps_write_fields_of_the_head.Goals as goal

pub returns : goal.returns
returns c = writes_of_head
