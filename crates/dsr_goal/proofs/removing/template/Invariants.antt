use Rattle.std.proofs.Common.{◌≡◌, take}
use Rattle.std.specs.List.{filter_map}
use Rattle.dsr_goal.specs.Removing.{update_at}
use Rattle.dsr_goal.proofs.removing.template.Given as goal

abbrev pub invariant-loop-removal : goal.invariant-loop-removal
invariant-loop-removal l = l.updates.items ≡ filter_map (update_at l.number) (take l.removal-index l.removals)
