use Rattle.dsr_run_laws.proofs.RunOnce.{run_once}
use Rattle.dsr_run_laws.proofs.laws.runs_are_one.Goals as goal

pub returns : goal.returns
returns c = λ spec choice layout old a b entries others end other plan image. run_once spec choice layout plan image.typed old a b entries others end other image
