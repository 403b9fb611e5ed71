use Rattle.std.proofs.Common.{◌≡◌, ◌<◌, ℕ, length}
use Rattle.dsr_graph.specs.Graphs.{IsOwnerIn}
use Rattle.dsr_graph_theory.specs.Owners.{Owner}
use Rattle.dsr_placement.specs.Placing.{IsLeft}
use Rattle.dsr_plan_theory.specs.StuckSets.{MemberRelies}
use Rattle.dsr_removal.proofs.members.relied_by.Given as goal

-- none of those so far relies on it
abbrev pub invariant-loop-who : goal.invariant-loop-who
invariant-loop-who l =
    (owner : Owner) → IsOwnerIn l.graph l.on owner → length l.left ≡ length owner.spec.constraints
    → (m : ℕ) → m < l.who → MemberRelies owner.spec (IsLeft l.left) l.on m → ⊥
