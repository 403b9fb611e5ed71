use Rattle.dsr_run_laws.proofs.RunOnce.{turn_once}
use Rattle.dsr_run_laws.proofs.laws.turns_are_one.Goals as goal

pub returns : goal.returns
returns c = λ spec choice layout bytes turn other plan typed. turn_once spec choice layout plan typed bytes turn other
