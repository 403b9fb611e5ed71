use Rattle.std.proofs.Common.{◌≡◌, false, take}
use Rattle.std.specs.List.{filter_map}
use Rattle.dsr_update_theory.specs.Guards.{guard_write}
use Rattle.dsr_goal.proofs.options.options.Given as goal

abbrev pub invariant-loop-guard : goal.invariant-loop-guard
invariant-loop-guard l = l.writes.items ≡ filter_map (guard_write l.base false) (take l.guard-index l.guard-items)
