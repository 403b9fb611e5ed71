use Rattle.dsr_affected_laws.proofs.Least.{passed}
use Rattle.dsr_affected_laws.proofs.the_affected_are_the_least_set.Goals as goal

pub returns : goal.returns
returns c = passed
