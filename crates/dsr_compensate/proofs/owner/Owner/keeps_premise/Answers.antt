use Rattle.std.proofs.Common.{arith}
use Rattle.std.proofs.lemmas.Grind.{elements}
use Rattle.dsr_graph_theory.specs.Owners as owners
use Rattle.dsr_graph_theory.specs.Sides as sides
use Rattle.dsr_update_theory.specs.Givers as givers
use Rattle.dsr_compensate.proofs.owner.Owner.keeps_premise.Goals as goal

pub keeps-requires-clause-declared : goal.keeps-requires-clause-declared
keeps-requires-clause-declared c = grind (arith, elements)

pub returns-in-Some-premise : goal.returns-in-Some-premise
returns-in-Some-premise c = grind (arith, elements)

pub returns-in-None-premise : goal.returns-in-None-premise
returns-in-None-premise c = grind (arith, elements)

pub returns-in-None : goal.returns-in-None
returns-in-None c = grind (arith, elements)
