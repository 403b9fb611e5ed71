use Rattle.dsr_step_laws.proofs.Targets.{stopped_at_none}
use Rattle.dsr_step_laws.proofs.steps.targets_made_none_stop_instances.Goals as goal

pub returns : goal.returns
returns c = stopped_at_none
