-- No conjunction before this one passes its tests.
use Rattle.dsr_repair.proofs.Gone.{EachBefore}
use Rattle.dsr_repair.specs.Literals.{Passes}
use Rattle.dsr_model.specs.Facts.{IsInModel}
use Rattle.dsr_repair.proofs.literals.first_passing.Given as goal

abbrev pub invariant-loop-place : goal.invariant-loop-place
invariant-loop-place l =
    EachBefore (λ n conj. Passes (IsInModel l.model) l.binding l.constraint l.row n conj → ⊥) l.constraint.conjs l.place
