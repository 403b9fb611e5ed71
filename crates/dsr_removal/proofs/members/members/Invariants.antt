use Rattle.dsr_placement.specs.Placing.{IsLeft}
use Rattle.dsr_removal.specs.Members.{AreMembersBelow}
use Rattle.dsr_removal.proofs.members.members.Given as goal

abbrev pub invariant-loop-number : goal.invariant-loop-number
invariant-loop-number l = AreMembersBelow l.spec (IsLeft l.left) l.number l.members.items
