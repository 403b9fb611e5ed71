use Rattle.std.proofs.Common.{All, take}
use Rattle.dsr_meaning.specs.Consistency.{ConjHolds}
use Rattle.dsr_model.specs.Facts.{IsInModel}
use Rattle.dsr_truth.proofs.literals.is_satisfied.Given as goal

-- none of the conjunctions so far is true
abbrev pub invariant-loop-conj : goal.invariant-loop-conj
invariant-loop-conj l =
    All (λ conj. ConjHolds (IsInModel l.model) l.binding conj → ⊥) (take l.conj-index l.conj-items)
