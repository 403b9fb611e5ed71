use Rattle.std.proofs.Common.{◌≡◌, ◌↔◌, ◌<◌, ℕ, IsTrue, Some, length, slice_get}
use Rattle.dsr_placement.specs.Atoms.{mark_at}
use Rattle.dsr_graph.specs.Graphs.{IsOwnerIn}
use Rattle.dsr_ir.specs.declared.constraints.Literal.{Literal}
use Rattle.dsr_graph_theory.specs.Owners.{Owner}
use Rattle.dsr_placement.specs.Placing.{IsLeft}
use Rattle.dsr_plan_theory.specs.Stuck.{MustTest}
use Rattle.dsr_placement.proofs.testing.conj_tests.Given as goal

abbrev pub invariant-loop-place : goal.invariant-loop-place
invariant-loop-place l =
    (length l.marks.items ≡ l.place)
    × ((owner : Owner) → IsOwnerIn l.graph l.constraint owner → length l.left ≡ length owner.spec.constraints
    → slice_get owner.constraint.conjs l.number ≡ Some l.conj
    → (n : ℕ) (literal : Literal) → n < l.place → slice_get l.conj.literals n ≡ Some literal
    → IsTrue (mark_at l.marks.items n) ↔ MustTest owner (IsLeft l.left) l.number n)
