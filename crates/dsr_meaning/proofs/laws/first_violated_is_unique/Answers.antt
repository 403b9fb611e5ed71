use Rattle.dsr_meaning.specs.Models.{IsFact}
use Rattle.dsr_meaning.proofs.Ordered.{first_once}
use Rattle.dsr_meaning.proofs.laws.first_violated_is_unique.Goals as goal

pub returns : goal.returns
returns c spec layout bytes order v w p q = first_once (IsFact spec layout bytes) spec order v w p q
