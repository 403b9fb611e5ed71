-- The affected ones of the constraints so far.
use Rattle.dsr_affected.proofs.Collecting.{IsOrdering}
use Rattle.dsr_affected.proofs.constraints.affected_constraints.Given as goal

abbrev pub invariant-loop-number : goal.invariant-loop-number
invariant-loop-number l = IsOrdering l.spec l.fields l.order.items l.number
