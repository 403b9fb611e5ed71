use Rattle.dsr_command_laws.proofs.TrialsTold.{tells_trials}
use Rattle.dsr_command_laws.proofs.repairs.trials_are_told.Goals as goal

pub returns : goal.returns
returns c = tells_trials
