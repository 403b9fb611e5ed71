use Rattle.std.proofs.Common.{◌≡◌, map, take}
use Rattle.dsr_goal.specs.Removing.{removal_by}
use Rattle.dsr_goal.proofs.removing.removals_by.Given as goal

abbrev pub invariant-loop-number : goal.invariant-loop-number
invariant-loop-number l = l.removals.items ≡ map (λ r. removal_by l.base l.var r.0 r.1.now) (take l.number-index l.rules)
