use Rattle.dsr_step_laws.proofs.Added.{fresh_member_added, fresh_target_added, member_added, pair_added}
use Rattle.dsr_step_laws.proofs.steps.additions_fire.Goals as goal

pub returns : goal.returns
returns c = record {
  members = λ spec layout step update rule set old new. member_added spec layout step update rule old new set;
  pairs = λ spec layout step update rule rel path w e old new. pair_added spec layout step update rule old new rel path w e;
  fresh_members = λ spec layout step update rule set path e old new. fresh_member_added spec layout step update rule old new set path e;
  fresh_targets = λ spec layout step update rule rel path e old new. fresh_target_added spec layout step update rule old new rel path e;
}
