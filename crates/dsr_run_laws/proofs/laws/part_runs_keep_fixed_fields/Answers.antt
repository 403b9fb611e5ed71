use Rattle.dsr_run_laws.proofs.RunOnce.{run_keeps_fixed}
use Rattle.dsr_run_laws.proofs.laws.part_runs_keep_fixed_fields.Goals as goal

pub returns : goal.returns
returns c = λ spec choice layout old new entries plan. run_keeps_fixed spec choice layout plan old new entries
