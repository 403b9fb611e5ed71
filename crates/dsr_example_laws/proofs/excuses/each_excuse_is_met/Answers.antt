use Rattle.dsr_example_laws.proofs.Cases.{each_kind}
use Rattle.dsr_example_laws.proofs.excuses.each_excuse_is_met.Goals as goal

pub returns : goal.returns
returns c = each_kind
