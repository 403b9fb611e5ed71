use Rattle.dsr_repair_laws.proofs.MakingSteps.{writes_read}
use Rattle.dsr_repair_laws.proofs.making.due_steps_write_what_rules_read.Goals as goal

pub returns : goal.returns
returns c = writes_read
