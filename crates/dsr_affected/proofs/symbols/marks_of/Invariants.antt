-- What is so before each symbol is marked, and how many aren't.
use Rattle.std.proofs.Common.{◌+◌}
use Rattle.dsr_affected.proofs.Marking.{IsMarking, open_marks}
use Rattle.dsr_affected.proofs.symbols.marks_of.Given as goal

abbrev pub invariant-loop-symbol : goal.invariant-loop-symbol
invariant-loop-symbol l = IsMarking l.spec l.fields l.marks

abbrev pub decreases-loop-symbol : goal.decreases-loop-symbol
decreases-loop-symbol l = open_marks l.marks
