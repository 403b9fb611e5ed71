use Rattle.dsr_facts.proofs.Following.{IsFollowing, count_open}
use Rattle.dsr_facts.proofs.memberships.follow.Given as goal

-- what was followed so far
abbrev pub invariant-loop-next : goal.invariant-loop-next
invariant-loop-next l = IsFollowing l.spec l.initial.marks l.set l.marks l.next

abbrev pub decreases-loop-next : goal.decreases-loop-next
decreases-loop-next l = count_open l.marks
