use Rattle.dsr_run_laws.proofs.RunOnce.{run_fronts}
use Rattle.dsr_run_laws.proofs.laws.part_runs_are_fronts.Goals as goal

pub returns : goal.returns
returns c = λ spec choice layout old a b entries others plan image. run_fronts spec choice layout plan image.typed old a b entries others image
