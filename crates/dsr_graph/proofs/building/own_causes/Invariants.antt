use Rattle.std.proofs.Common.{take}
use Rattle.dsr_graph.specs.Asking.{AreOwnCausesOf}
use Rattle.dsr_graph.specs.Paired.{ArePaired}
use Rattle.dsr_compensate.specs.Owned.{owner_of}
use Rattle.dsr_graph.proofs.building.own_causes.Given as goal

abbrev pub invariant-loop-first : goal.invariant-loop-first
invariant-loop-first l =
    ArePaired (λ n first causes. AreOwnCausesOf (owner_of l.owner).spec.base first causes) (take l.first-index l.firsts) l.own.items
