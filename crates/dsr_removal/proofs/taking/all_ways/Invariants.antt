use Rattle.std.proofs.Common.{◌≡◌, length, take}
use Rattle.dsr_graph.specs.Graphs.{IsOwnerIn}
use Rattle.dsr_graph.specs.Paired.{ArePaired}
use Rattle.dsr_graph_theory.specs.Owners.{Owner}
use Rattle.dsr_placement.specs.Placing.{IsLeft}
use Rattle.dsr_removal.specs.Taking.{AreTakenIn}
use Rattle.dsr_removal.proofs.taking.all_ways.Given as goal

abbrev pub invariant-loop-place : goal.invariant-loop-place
invariant-loop-place l =
    (owner : Owner) → IsOwnerIn l.graph l.number owner → length l.left ≡ length owner.spec.constraints → owner.constraint ≡ l.constraint
    → ArePaired (λ n conj ways. AreTakenIn owner (IsLeft l.left) n conj ways) (take l.place l.constraint.conjs) l.rows.items
