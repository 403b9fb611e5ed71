use Rattle.std.proofs.Common.{take}
use Rattle.dsr_effect.specs.Told.{AreRead, change_of}
use Rattle.dsr_effect.proofs.changes.Change.guards_reading.Given as goal

-- the guards so far are read
abbrev pub invariant-loop-guard : goal.invariant-loop-guard
invariant-loop-guard l = AreRead (change_of l.self) l.rule (take l.guard-index l.rule.guards) l.reading
