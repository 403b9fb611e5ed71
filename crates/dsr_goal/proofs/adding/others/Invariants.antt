use Rattle.std.proofs.Common.{◌≡◌, take}
use Rattle.dsr_update_theory.specs.Templates.{others}
use Rattle.dsr_goal.proofs.adding.others.Given as goal

abbrev pub invariant-loop-guard : goal.invariant-loop-guard
invariant-loop-guard l = l.others.items ≡ others l.field (take l.guard-index l.guards)
