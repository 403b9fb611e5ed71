use Rattle.std.proofs.Common.{◌≡◌, ◌++◌, take}
use Rattle.dsr_goal.proofs.literals.push_copies.Given as goal

abbrev pub invariant-loop-update : goal.invariant-loop-update
invariant-loop-update l = l.updates.items ≡ l.fn.updates.items ++ take l.update-index l.others
