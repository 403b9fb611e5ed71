use Rattle.std.proofs.Common.{take}
use Rattle.dsr_graph.specs.Asking.{AreFactsAt}
use Rattle.dsr_graph.specs.Paired.{ArePaired}
use Rattle.dsr_graph.proofs.building.all_facts.Given as goal

abbrev pub invariant-loop-number : goal.invariant-loop-number
invariant-loop-number l = ArePaired (λ n constraint its. AreFactsAt l.spec n its) (take l.number l.spec.constraints) l.facts.items
