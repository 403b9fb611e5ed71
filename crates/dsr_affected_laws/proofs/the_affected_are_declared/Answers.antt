use Rattle.dsr_affected_laws.proofs.Declared.{declared}
use Rattle.dsr_affected_laws.proofs.the_affected_are_declared.Goals as goal

pub returns : goal.returns
returns c = declared
