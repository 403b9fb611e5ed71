use Rattle.std.proofs.Common.{take}
use Rattle.dsr_effect.proofs.Apart.{AreApart}
use Rattle.dsr_goal.specs.Knowing.{known_by}
use Rattle.dsr_effect.proofs.context.apart_sets.Given as goal

-- the pairs so far are marked
abbrev pub invariant-loop-pair : goal.invariant-loop-pair
invariant-loop-pair l = AreApart (known_by l.known l.var) (take l.pair-index l.exclusive) l.marks
