use Rattle.dsr_compensate.proofs.Standing.{AreTogetherBefore}
use Rattle.dsr_compensate.proofs.making.may_stand_together.Given as goal

abbrev pub invariant-loop-place : goal.invariant-loop-place
invariant-loop-place l = AreTogetherBefore l.base l.writes l.place
