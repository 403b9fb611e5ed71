use Rattle.std.proofs.Common.{arith}
use Rattle.std.proofs.lemmas.Grind.{elements}
use Rattle.dsr_compensate.proofs.making.may_join.Goals as goal

pub returns : goal.returns
returns c = grind (arith, elements)
