use Rattle.dsr_meaning.proofs.Ranks.{instance_order}
use Rattle.dsr_meaning.proofs.orders.instances_are_ordered.Goals as goal

pub returns : goal.returns
returns c = instance_order
