use Rattle.std.proofs.Common.{arith}
use Rattle.std.proofs.lemmas.Grind.{common_steps}
use Rattle.dsr_graph_theory.specs.Lists as lists
use Rattle.dsr_compensate.proofs.combining.compensated_by.Goals as goal

pub loop-update-preserved : goal.loop-update-preserved
loop-update-preserved c = grind (arith, common_steps)

pub returns : goal.returns
returns c = grind (arith, common_steps)
