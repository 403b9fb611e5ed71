use Rattle.std.proofs.Common.{◌≡◌, drop}
use Rattle.dsr_update_theory.specs.Templates.{accept_slot}
use Rattle.dsr_goal.proofs.adding.accept_slot.Given as goal

abbrev pub invariant-loop-guard : goal.invariant-loop-guard
invariant-loop-guard l = accept_slot l.field (drop l.guard-index l.guards) ≡ accept_slot l.field l.guards
