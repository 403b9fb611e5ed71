use Rattle.std.proofs.Common.{◌≡◌, length}
use Rattle.dsr_graph.specs.Graphs.{IsOwnerIn}
use Rattle.dsr_graph_theory.specs.Owners.{Owner}
use Rattle.dsr_placement.specs.Placing.{IsLeft}
use Rattle.dsr_removal.specs.Ways.{AreWaysBefore}
use Rattle.dsr_removal.proofs.ways.add_conj_ways.Given as goal

abbrev pub invariant-loop-literal : goal.invariant-loop-literal
invariant-loop-literal l =
    (owner : Owner) → IsOwnerIn l.graph l.constraint owner → length l.left ≡ length owner.spec.constraints
    → AreWaysBefore owner (IsLeft l.left) l.number 0 0 l.initial.ways.items
    → AreWaysBefore owner (IsLeft l.left) l.number l.literal 0 l.ways.items
