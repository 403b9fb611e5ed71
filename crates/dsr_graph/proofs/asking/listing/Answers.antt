use Rattle.std.proofs.Common.{arith}
use Rattle.std.proofs.lemmas.Grind.{elements}
use Rattle.dsr_graph.specs.Graphs as said
use Rattle.dsr_graph.proofs.asking.listing.Goals as goal

pub returns-in_err-kind : goal.returns-in_err-kind
returns-in_err-kind c = grind (arith, elements)

pub returns : goal.returns
returns c = grind (arith, elements)
