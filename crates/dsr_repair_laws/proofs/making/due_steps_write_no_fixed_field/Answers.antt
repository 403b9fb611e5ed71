use Rattle.dsr_repair_laws.proofs.MakingSteps.{writes_free}
use Rattle.dsr_repair_laws.proofs.making.due_steps_write_no_fixed_field.Goals as goal

pub returns : goal.returns
returns c = writes_free
