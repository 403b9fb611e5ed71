use Rattle.dsr_meaning.specs.Models.{IsFact}
use Rattle.dsr_meaning.proofs.Ordered.{violations_once}
use Rattle.dsr_meaning.proofs.laws.violations_are_unique.Goals as goal

pub returns : goal.returns
returns c spec layout bytes vs ws a b = violations_once (IsFact spec layout bytes) spec vs ws a b
