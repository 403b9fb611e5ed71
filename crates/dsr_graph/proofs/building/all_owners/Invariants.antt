use Rattle.std.proofs.Common.{take}
use Rattle.dsr_graph.specs.Asking.{IsOwnerAt}
use Rattle.dsr_graph.specs.Paired.{ArePaired}
use Rattle.dsr_graph.proofs.building.all_owners.Given as goal

abbrev pub invariant-loop-number : goal.invariant-loop-number
invariant-loop-number l = ArePaired (IsOwnerAt l.spec) (take l.number l.spec.constraints) l.owners.items
