-- What is so while the named sets are marked.
use Rattle.dsr_effect.proofs.Avoiding.{IsNaming}
use Rattle.dsr_effect.proofs.avoided.mark_named.Given as goal

-- the names so far are marked
abbrev pub invariant-loop-set : goal.invariant-loop-set
invariant-loop-set l = IsNaming l.avoid l.marks l.set-index
