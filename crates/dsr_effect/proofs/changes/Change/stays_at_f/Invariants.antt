use Rattle.std.proofs.Common.{true, take}
use Rattle.dsr_update_theory.specs.Touching.{IsSureAtF}
use Rattle.dsr_effect.specs.Told.{change_of}
use Rattle.dsr_effect.proofs.Guards.{EachIn}
use Rattle.dsr_effect.proofs.changes.Change.stays_at_f.Given as goal

-- each guard so far surely holds
abbrev pub invariant-loop-guard : goal.invariant-loop-guard
invariant-loop-guard l = EachIn (IsSureAtF (change_of l.self) true) (take l.guard-index l.guard-items)
