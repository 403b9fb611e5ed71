use Rattle.dsr_layout.proofs.RangeOfFacts.{fact_in_range}
use Rattle.dsr_layout.proofs.laws.facts_lie_in_range.Goals as goal

pub returns : goal.returns
returns c spec bytes layout is typed = fact_in_range spec bytes layout is.numbers typed
