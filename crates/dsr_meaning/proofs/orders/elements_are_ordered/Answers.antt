use Rattle.dsr_meaning.proofs.Ranks.{element_order}
use Rattle.dsr_meaning.proofs.orders.elements_are_ordered.Goals as goal

pub returns : goal.returns
returns c = element_order
