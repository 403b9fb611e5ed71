use Rattle.std.proofs.Common.{None, map}
use Rattle.dsr_model.specs.Facts.{IsInModel}
use Rattle.dsr_truth.specs.Walks.{AreFound}
use Rattle.dsr_truth.proofs.violated.violations.Given as goal
use Rattle.dsr_meaning.specs.Consistency.{bound_constraint}

-- the violated bindings of the constraints so far were found
abbrev pub invariant-loop-number : goal.invariant-loop-number
invariant-loop-number l = AreFound (IsInModel l.model) l.spec l.number None (map bound_constraint l.found.items)
