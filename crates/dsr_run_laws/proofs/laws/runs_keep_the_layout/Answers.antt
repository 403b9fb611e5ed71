use Rattle.dsr_run_laws.proofs.RunOnce.{run_keeps}
use Rattle.dsr_run_laws.proofs.laws.runs_keep_the_layout.Goals as goal

pub returns : goal.returns
returns c spec choice layout old new entries plan = run_keeps spec choice layout plan old new entries
