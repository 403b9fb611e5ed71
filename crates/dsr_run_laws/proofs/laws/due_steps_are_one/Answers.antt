use Rattle.dsr_run_laws.proofs.StepOnce.{step_once}
use Rattle.dsr_run_laws.proofs.laws.due_steps_are_one.Goals as goal

pub returns : goal.returns
returns c = λ spec choice layout bytes step other update its plan typed. step_once spec choice layout bytes plan typed step other update its
