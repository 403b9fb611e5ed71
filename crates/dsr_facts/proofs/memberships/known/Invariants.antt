use Rattle.dsr_facts.proofs.Listing.{IsListed}
use Rattle.dsr_facts.proofs.memberships.known.Given as goal

-- the numbers so far are listed
abbrev pub invariant-loop-set : goal.invariant-loop-set
invariant-loop-set l = IsListed l.is_known-items l.sets.items l.set
