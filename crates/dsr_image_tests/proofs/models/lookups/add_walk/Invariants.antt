use Rattle.std.proofs.Common.{IfSome}
use Rattle.dsr_model.specs.Facts.{MayBeOf, facts_after}
use Rattle.dsr_image_tests.proofs.models.lookups.add_walk.Given as goal

-- the last fact is of the symbol, by its pools
abbrev pub invariant-loop-fact : goal.invariant-loop-fact
invariant-loop-fact l = IfSome l.last (MayBeOf l.model l.symbol)

abbrev pub decreases-loop-fact : goal.decreases-loop-fact
decreases-loop-fact l = facts_after l.model l.symbol l.last
