use Rattle.std.proofs.Common.{arith}
use Rattle.std.proofs.lemmas.Grind.{elements}
use Rattle.dsr_cert.specs.Searches as said
use Rattle.dsr_placement.specs.Atoms as marked
use Rattle.dsr_cert.proofs.flaws.Chosen.literal.Goals as goal

pub returns-in_err-constraint : goal.returns-in_err-constraint
returns-in_err-constraint c = grind (arith, elements)

pub returns-in_err-conj : goal.returns-in_err-conj
returns-in_err-conj c = grind (arith, elements)

pub returns : goal.returns
returns c = grind (arith, elements)
