use Rattle.dsr_meaning.proofs.Ranks.{binding_order}
use Rattle.dsr_meaning.proofs.orders.bindings_are_ordered.Goals as goal

pub returns : goal.returns
returns c = binding_order
