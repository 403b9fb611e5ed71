use Rattle.dsr_bound_laws.proofs.Runs.{run_bounded}
use Rattle.dsr_bound_laws.proofs.laws.runs_are_bounded.Goals as goal

pub returns : goal.returns
returns c spec choice layout old new entries plan = run_bounded spec choice layout plan old new entries
