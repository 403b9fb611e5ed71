use Rattle.std.proofs.Common.{subst}
use Rattle.dsr_answers.proofs.Refusing.{told_is}
use Rattle.dsr_command_plan.specs.Planned.{IsFound}
use Rattle.dsr_command_trial.specs.Trials.{IsTrial}
use Rattle.dsr_command_trial.specs.Trials.IsTrial.{unplanned}
use Rattle.dsr_command_trial.proofs.trials.try_spec.Goals as goal

pub returns-in-Stuck : goal.returns-in-Stuck
returns-in-Stuck c =
    let found = subst (IsFound c.args.spec.now) c.in-Stuck.is c.in_ok-choice.ensures in
    told_is (IsTrial c.args.number) c.refused.result _ c.refused.ensures
    (unplanned c.args.spec.now c.in-Stuck.set c.requires.meant found.0 found.1)
