use Rattle.std.proofs.Common.{◌≡◌, ◌<◌, ℕ, length}
use Rattle.dsr_graph.specs.Graphs.{IsOwnerIn}
use Rattle.dsr_graph_theory.specs.Owners.{Owner}
use Rattle.dsr_placement.specs.Placing.{IsLeft, IsUsableWay}
use Rattle.dsr_placement.proofs.sparing.first_usable.Given as goal

-- none of those so far is usable
abbrev pub invariant-loop-way : goal.invariant-loop-way
invariant-loop-way l =
    (owner : Owner) → IsOwnerIn l.graph l.at.constraint owner → length l.left ≡ length owner.spec.constraints
    → (n : ℕ) → n < l.way → IsUsableWay l.graph owner (IsLeft l.left) l.at n → ⊥
