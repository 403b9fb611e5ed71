-- What is left to be put leads to all that is to be put, what is noted leads back, and the model is that of the image
-- where it was changed with it.
use Rattle.dsr_edit.proofs.Taking.{IsNoting}
use Rattle.dsr_edit.proofs.puts.put_noting.Given as goal

abbrev pub invariant-loop-place : goal.invariant-loop-place
invariant-loop-place l = IsNoting l.spec l.layout l.rules l.puts l.place l.was l.fn.image l.image l.model l.changed
