use Rattle.std.proofs.Common.{arith}
use Rattle.std.proofs.lemmas.Grind.{elements}
use Rattle.dsr_report_read.specs.Lenient as said
use Rattle.dsr_report_read.proofs.heads.read_head.Goals as goal

pub read_head_of-requires-clause-constraint : goal.read_head_of-requires-clause-constraint
read_head_of-requires-clause-constraint c = grind (arith, elements)

pub returns : goal.returns
returns c = grind (arith, elements)
