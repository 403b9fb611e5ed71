use Rattle.std.proofs.Common.{◌≡◌, length}
use Rattle.dsr_graph.specs.Graphs.{IsOwnerIn}
use Rattle.dsr_graph_theory.specs.Owners.{Owner}
use Rattle.dsr_placement.specs.Placing.{IsLeft}
use Rattle.dsr_removal.specs.Ways.{AreWaysBefore}
use Rattle.dsr_removal.proofs.ways.stuck_ways.Given as goal

abbrev pub invariant-loop-place : goal.invariant-loop-place
invariant-loop-place l =
    (owner : Owner) → IsOwnerIn l.graph l.number owner → length l.left ≡ length owner.spec.constraints → owner.constraint ≡ l.constraint
    → AreWaysBefore owner (IsLeft l.left) l.place 0 0 l.ways.items
