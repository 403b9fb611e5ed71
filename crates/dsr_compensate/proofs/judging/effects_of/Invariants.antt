use Rattle.std.proofs.Common.{◌≡◌, take}
use Rattle.dsr_compensate.specs.Taking.{AreEffectsOf}
use Rattle.dsr_compensate.specs.Owned.{owner_of}
use Rattle.dsr_compensate.proofs.judging.effects_of.Given as goal

abbrev pub invariant-loop-place : goal.invariant-loop-place
invariant-loop-place l = AreEffectsOf (owner_of l.owner) l.goal (take l.place l.updates) l.effects.items
