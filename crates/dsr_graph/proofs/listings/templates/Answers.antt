use Rattle.std.proofs.Common.{arith}
use Rattle.std.proofs.lemmas.Grind.{common_steps}
use Rattle.dsr_graph.proofs.listings.templates.Goals as goal

pub loop-its-preserved : goal.loop-its-preserved
loop-its-preserved c = grind (arith, common_steps)

pub returns : goal.returns
returns c = grind (arith, common_steps)
