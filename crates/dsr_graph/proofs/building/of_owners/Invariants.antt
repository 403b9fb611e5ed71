use Rattle.std.proofs.Common.{take}
use Rattle.dsr_graph.specs.Graphs.{IsNodeOf, owner_at}
use Rattle.dsr_graph.specs.Paired.{ArePaired}
use Rattle.dsr_graph.proofs.building.of_owners.Given as goal

abbrev pub invariant-loop-number : goal.invariant-loop-number
invariant-loop-number l =
    ArePaired (λ n constraint node. IsNodeOf (owner_at l.spec n constraint) node) (take l.number l.spec.constraints) l.nodes.items
