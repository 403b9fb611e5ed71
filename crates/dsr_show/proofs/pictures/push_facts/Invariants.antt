use Rattle.std.proofs.Common.{IfSome}
use Rattle.dsr_model.specs.Facts.{MayBeOf}
use Rattle.dsr_show.proofs.pictures.push_facts.Given as goal

abbrev pub invariant-loop-turn : goal.invariant-loop-turn
invariant-loop-turn l = IfSome l.last (MayBeOf l.image.model l.symbol)
