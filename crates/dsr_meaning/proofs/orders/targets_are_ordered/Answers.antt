use Rattle.dsr_meaning.proofs.Ranks.{target_order}
use Rattle.dsr_meaning.proofs.orders.targets_are_ordered.Goals as goal

pub returns : goal.returns
returns c = target_order
