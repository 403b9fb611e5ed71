use Rattle.dsr_step_laws.proofs.Together.{guards_may_stand, targets_may_stand}
use Rattle.dsr_step_laws.proofs.steps.writes_of_additions_may_stand_together.Goals as goal

pub returns : goal.returns
returns c = record {
  guards = λ spec rule writes typed among. guards_may_stand spec rule writes typed among;
  targets = λ spec rule pick path writes typed among. targets_may_stand spec rule writes typed among pick path;
}
