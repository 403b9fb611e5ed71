use Rattle.dsr_layout.proofs.RangeOfFacts.{fact_in_range}
use Rattle.dsr_model_laws.proofs.Bounded.{bounded}
use Rattle.dsr_model_laws.proofs.laws.sizes_are_bounded.Goals as goal

pub returns : goal.returns
returns c spec bytes layout is typed = bounded spec bytes layout (fact_in_range spec bytes layout is.numbers typed)
