use Rattle.std.proofs.Common.{◌≡◌, length}
use Rattle.dsr_graph.specs.Graphs.{IsOwnerIn}
use Rattle.dsr_graph_theory.specs.Owners.{Owner}
use Rattle.dsr_placement.specs.Placing.{IsLeft}
use Rattle.dsr_removal.specs.Ways.{AreWaysBefore}
use Rattle.dsr_removal.proofs.ways.add_literal_ways.Given as goal

abbrev pub invariant-loop-number : goal.invariant-loop-number
invariant-loop-number l =
    (owner : Owner) → IsOwnerIn l.graph l.at.constraint owner → length l.left ≡ length owner.spec.constraints
    → AreWaysBefore owner (IsLeft l.left) l.at.conj l.at.literal 0 l.initial.ways.items
    → AreWaysBefore owner (IsLeft l.left) l.at.conj l.at.literal l.number l.ways.items
