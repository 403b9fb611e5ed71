use Rattle.dsr_step_laws.proofs.Stopped.{stopped}
use Rattle.dsr_step_laws.proofs.steps.guards_made_false_stop_instances.Goals as goal

pub returns : goal.returns
returns c = stopped
