-- What is so while the sets are asked once.
use Rattle.dsr_effect.proofs.Avoiding.{IsMarking}
use Rattle.dsr_effect.proofs.avoided.mark_given.Given as goal

-- the sets so far were asked
abbrev pub invariant-loop-set : goal.invariant-loop-set
invariant-loop-set l = IsMarking l.spec l.fn.marks l.marks l.grew l.set
