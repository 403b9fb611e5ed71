use Rattle.std.proofs.Common.{arith}
use Rattle.std.proofs.lemmas.Grind.{elements}
use Rattle.dsr_graph.specs.Graphs as said
use Rattle.dsr_graph.proofs.asking.listing_in.Goals as goal

pub returns-in_err-node : goal.returns-in_err-node
returns-in_err-node c = grind (arith, elements)

pub returns : goal.returns
returns c = grind (arith, elements)
