use Rattle.dsr_meaning.proofs.Firing.{derived_once}
use Rattle.dsr_meaning.proofs.laws.instances_give_one_fact.Goals as goal

pub returns : goal.returns
returns c = derived_once
