use Rattle.dsr_replay.proofs.Outcomes.{never_both, one_fault}
use Rattle.dsr_replay.proofs.laws.audits_have_one_outcome.Goals as goal

pub returns : goal.returns
returns c = record {
  either = λ spec choice layout image fixed log fault plan image_is. never_both spec choice layout plan image image_is log fixed fault;
  fault = λ spec choice layout image fixed log fault other plan image_is. one_fault spec choice layout plan image image_is log fixed fault other;
}
