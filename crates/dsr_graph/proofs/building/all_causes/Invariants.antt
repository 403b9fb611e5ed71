use Rattle.std.proofs.Common.{take}
use Rattle.dsr_graph.specs.Asking.{AreCausesOf}
use Rattle.dsr_graph.specs.Paired.{ArePaired}
use Rattle.dsr_graph.proofs.building.all_causes.Given as goal

abbrev pub invariant-loop-constraint : goal.invariant-loop-constraint
invariant-loop-constraint l = ArePaired (λ n constraint its. AreCausesOf l.spec constraint its) (take l.constraint-index l.spec.constraints) l.causes.items
