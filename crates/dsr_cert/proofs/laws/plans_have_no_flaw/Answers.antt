use Rattle.dsr_cert.proofs.Flawed.{no_flaw}
use Rattle.dsr_cert.proofs.laws.plans_have_no_flaw.Goals as goal

pub returns : goal.returns
returns c = no_flaw
