use Rattle.std.proofs.Common.{◌≡◌, ◌<◌, ℕ, Some, length, slice_get}
use Rattle.dsr_placement.specs.Atoms.{row_at}
use Rattle.dsr_graph.specs.Graphs.{IsOwnerIn}
use Rattle.dsr_ir.specs.declared.constraints.Conj.{Conj}
use Rattle.dsr_graph_theory.specs.Owners.{Owner}
use Rattle.dsr_placement.specs.Placing.{AreTestsIn, IsLeft}
use Rattle.dsr_placement.proofs.testing.tests.Given as goal

abbrev pub invariant-loop-place : goal.invariant-loop-place
invariant-loop-place l =
    (length l.rows.items ≡ l.place)
    × ((owner : Owner) → IsOwnerIn l.graph l.number owner → length l.left ≡ length owner.spec.constraints → owner.constraint ≡ l.constraint
    → (n : ℕ) (conj : Conj) → n < l.place → slice_get l.constraint.conjs n ≡ Some conj
    → AreTestsIn owner (IsLeft l.left) n conj (row_at l.rows.items n))
