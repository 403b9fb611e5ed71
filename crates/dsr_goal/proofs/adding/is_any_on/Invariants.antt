use Rattle.std.proofs.Common.{◌≡◌, drop}
use Rattle.dsr_meaning.specs.Lists.{any_of}
use Rattle.dsr_update_theory.specs.Templates.{is_on}
use Rattle.dsr_goal.proofs.adding.is_any_on.Given as goal

abbrev pub invariant-loop-guard : goal.invariant-loop-guard
invariant-loop-guard l = any_of (is_on l.field) (drop l.guard-index l.guards) ≡ any_of (is_on l.field) l.guards
