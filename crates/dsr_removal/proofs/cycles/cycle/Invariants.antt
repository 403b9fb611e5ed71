use Rattle.std.proofs.Common.{◌-◌, length}
use Rattle.dsr_removal.specs.Members.{IsWalk}
use Rattle.dsr_removal.proofs.cycles.cycle.Given as goal

abbrev pub invariant-loop-place : goal.invariant-loop-place
invariant-loop-place l = IsWalk l.members l.path.items l.at

abbrev pub decreases-loop-place : goal.decreases-loop-place
decreases-loop-place l = length l.members - length l.path.items
