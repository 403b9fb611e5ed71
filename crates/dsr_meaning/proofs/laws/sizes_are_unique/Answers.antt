use Rattle.dsr_meaning.specs.Models.{IsFact}
use Rattle.dsr_meaning.proofs.Sizes.{size_once}
use Rattle.dsr_meaning.proofs.laws.sizes_are_unique.Goals as goal

pub returns : goal.returns
returns c spec layout bytes b measure n m p q = size_once (IsFact spec layout bytes) b measure n m p q
