use Rattle.std.proofs.Common.{false, take}
use Rattle.dsr_update_theory.specs.Touching.{IsSureAtF}
use Rattle.dsr_effect.specs.Told.{change_of}
use Rattle.dsr_effect.proofs.Guards.{NoneIn}
use Rattle.dsr_effect.proofs.changes.Change.is_blocked_at_f.Given as goal

-- no guard so far surely fails
abbrev pub invariant-loop-guard : goal.invariant-loop-guard
invariant-loop-guard l = NoneIn (IsSureAtF (change_of l.self) false) (take l.guard-index l.guard-items)
