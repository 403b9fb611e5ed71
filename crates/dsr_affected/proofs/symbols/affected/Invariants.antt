-- The symbols that were collected so far.
use Rattle.dsr_affected.specs.Marking.{AreCollected}
use Rattle.dsr_affected.proofs.symbols.affected.Given as goal

abbrev pub invariant-loop-set : goal.invariant-loop-set
invariant-loop-set l = AreCollected l.marks l.set 0 l.symbols.items

abbrev pub invariant-loop-rel : goal.invariant-loop-rel
invariant-loop-rel l = AreCollected l.marks l.sets l.rel l.symbols.items
