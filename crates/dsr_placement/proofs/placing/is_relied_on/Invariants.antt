use Rattle.std.proofs.Common.{◌≡◌, ◌<◌, ℕ, length}
use Rattle.dsr_graph.specs.Graphs.{IsOwnerIn}
use Rattle.dsr_graph_theory.specs.Owners.{Owner}
use Rattle.dsr_placement.specs.Placing.{IsLeft, ReliesLeft}
use Rattle.dsr_placement.proofs.placing.is_relied_on.Given as goal

-- none of those so far relies on it
abbrev pub invariant-loop-who : goal.invariant-loop-who
invariant-loop-who l =
    (owner : Owner) → IsOwnerIn l.graph l.on owner → length l.left ≡ length owner.spec.constraints
    → (m : ℕ) → m < l.who → ReliesLeft owner.spec (IsLeft l.left) m l.on → ⊥
