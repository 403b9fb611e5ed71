use Rattle.std.proofs.Common.{arith}
use Rattle.std.proofs.lemmas.Grind.{common_steps}
use Rattle.dsr_graph.specs.Graphs as said
use Rattle.dsr_graph.proofs.asking.first_marked.Goals as goal

pub returns-then-turns : goal.returns-then-turns
returns-then-turns c = grind (arith, common_steps)

pub loop-place-preserved : goal.loop-place-preserved
loop-place-preserved c = grind (arith, common_steps)

pub returns : goal.returns
returns c = grind (arith, common_steps)
