-- The values that are left lead from here to where all of them lead, and the model is that of the image where it was
-- changed with it.
use Rattle.dsr_edit.proofs.Taking.{IsTaking}
use Rattle.dsr_edit.proofs.puts.put_back.Given as goal

abbrev pub invariant-loop-place : goal.invariant-loop-place
invariant-loop-place l = IsTaking l.spec l.layout l.rules l.puts l.was l.place l.fn.image l.image l.model l.changed

abbrev pub decreases-loop-place : goal.decreases-loop-place
decreases-loop-place l = l.place
