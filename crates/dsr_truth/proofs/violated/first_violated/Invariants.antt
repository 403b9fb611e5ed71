use Rattle.dsr_model.specs.Facts.{IsInModel}
use Rattle.dsr_truth.proofs.Searching.{NonePassed}
use Rattle.dsr_truth.proofs.violated.first_violated.Given as goal

-- no constraint so far has a violated binding
abbrev pub invariant-loop-number : goal.invariant-loop-number
invariant-loop-number l = NonePassed (IsInModel l.model) l.spec l.order l.number-index
