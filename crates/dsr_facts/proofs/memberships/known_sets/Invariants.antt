use Rattle.dsr_facts.proofs.Following.{IsKnowing}
use Rattle.dsr_facts.proofs.memberships.known_sets.Given as goal

-- the sets so far were asked
abbrev pub invariant-loop-set : goal.invariant-loop-set
invariant-loop-set l = IsKnowing l.spec l.quant l.var l.marks l.set
