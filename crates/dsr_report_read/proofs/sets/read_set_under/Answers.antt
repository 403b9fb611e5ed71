use Rattle.std.proofs.Common.{arith}
use Rattle.std.proofs.lemmas.Grind.{elements}
use Rattle.dsr_report_read.specs.Lenient as said
use Rattle.dsr_report_read.proofs.sets.read_set_under.Goals as goal

pub read_set_at-requires-clause-declared : goal.read_set_at-requires-clause-declared
read_set_at-requires-clause-declared c = grind (arith, elements)

pub returns : goal.returns
returns c = grind (arith, elements)
