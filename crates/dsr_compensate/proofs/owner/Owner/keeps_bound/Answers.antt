use Rattle.std.proofs.Common.{arith}
use Rattle.std.proofs.lemmas.Grind.{elements}
use Rattle.dsr_graph_theory.specs.Owners as owners
use Rattle.dsr_graph_theory.specs.Sides as sides
use Rattle.dsr_update_theory.specs.Givers as givers
use Rattle.dsr_compensate.proofs.owner.Owner.keeps_bound.Goals as goal

pub keeps-requires-clause-declared : goal.keeps-requires-clause-declared
keeps-requires-clause-declared c = grind (arith, elements)

pub keeps-requires-then-keeps-clause-declared : goal.keeps-requires-then-keeps-clause-declared
keeps-requires-then-keeps-clause-declared c = grind (arith, elements)
