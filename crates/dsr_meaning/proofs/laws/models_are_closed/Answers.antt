use Rattle.dsr_meaning.proofs.Derived.{derived_closed}
use Rattle.dsr_meaning.proofs.laws.models_are_closed.Goals as goal

pub returns : goal.returns
returns c = derived_closed
