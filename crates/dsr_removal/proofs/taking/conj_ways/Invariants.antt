use Rattle.std.proofs.Common.{◌≡◌, Some, length, slice_get, take}
use Rattle.dsr_graph.specs.Graphs.{IsOwnerIn}
use Rattle.dsr_graph.specs.Paired.{ArePaired}
use Rattle.dsr_graph_theory.specs.Owners.{Owner}
use Rattle.dsr_placement.specs.Placing.{IsLeft}
use Rattle.dsr_plan_theory.specs.Taken.{IsTakenWay}
use Rattle.dsr_removal.proofs.taking.conj_ways.Given as goal

abbrev pub invariant-loop-place : goal.invariant-loop-place
invariant-loop-place l =
    (owner : Owner) → IsOwnerIn l.graph l.constraint owner → length l.left ≡ length owner.spec.constraints
    → slice_get owner.constraint.conjs l.number ≡ Some l.conj
    → ArePaired (λ n literal way. IsTakenWay owner (IsLeft l.left) l.number n literal way) (take l.place l.conj.literals) l.ways.items
