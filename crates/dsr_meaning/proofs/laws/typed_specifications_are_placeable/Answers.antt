use Rattle.dsr_meaning.proofs.Placing.{spec_placeable}
use Rattle.dsr_meaning.proofs.laws.typed_specifications_are_placeable.Goals as goal

pub returns : goal.returns
returns c = spec_placeable
