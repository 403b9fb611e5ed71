use Rattle.std.proofs.Common.{arith}
use Rattle.std.proofs.lemmas.Grind.{elements}
use Rattle.dsr_graph.specs.Graphs as said
use Rattle.dsr_graph.proofs.asking.outcome.Goals as goal

pub returns : goal.returns
returns c = grind (arith, elements)
