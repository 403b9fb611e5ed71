use Rattle.std.proofs.Common.{arith}
use Rattle.std.proofs.lemmas.Grind.{elements}
use Rattle.dsr_cert.specs.Searches as said
use Rattle.dsr_placement.specs.Atoms as marked
use Rattle.dsr_cert.proofs.flaws.Chosen.way.Goals as goal

pub returns-in_err-ways : goal.returns-in_err-ways
returns-in_err-ways c = grind (arith, elements)

pub returns : goal.returns
returns c = grind (arith, elements)
