use Rattle.dsr_effect_laws.proofs.StepReads.{left_as_judged}
use Rattle.dsr_effect_laws.proofs.steps_leave_what_is_judged.Goals as goal

pub returns : goal.returns
returns c = left_as_judged
