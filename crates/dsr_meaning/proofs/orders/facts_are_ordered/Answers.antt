use Rattle.dsr_meaning.proofs.Ranks.{fact_order}
use Rattle.dsr_meaning.proofs.orders.facts_are_ordered.Goals as goal

pub returns : goal.returns
returns c = fact_order
