use Rattle.dsr_step_laws.proofs.Set.{set_by_step}
use Rattle.dsr_step_laws.proofs.steps.values_are_set.Goals as goal

pub returns : goal.returns
returns c = set_by_step
