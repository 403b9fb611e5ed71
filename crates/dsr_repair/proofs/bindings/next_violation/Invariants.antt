-- The best violation among the constraints before this one.
use Rattle.dsr_repair.specs.Violations.{IsBestBefore}
use Rattle.dsr_model.specs.Facts.{IsInModel}
use Rattle.dsr_repair.proofs.bindings.next_violation.Given as goal

abbrev pub invariant-loop-number : goal.invariant-loop-number
invariant-loop-number l = IsBestBefore (IsInModel l.model) l.spec l.choice l.number l.best
