use Rattle.std.proofs.Common.{◌∙◌, subst}
use Rattle.dsr_answers.specs.Refused.{IsRefused}
use Rattle.dsr_compile.specs.Readings.{IsReadingOf}
use Rattle.dsr_script.specs.Moves.{shown}
use Rattle.dsr_command_trial.specs.Trials.IsTrial.{refused}
use Rattle.dsr_command_trial.proofs.trials.trial.Goals as goal

pub returns : goal.returns
returns c =
    refused (shown c.in-Refused.told)
    (subst (λ text. IsRefused text (shown c.in-Refused.told)) (c.deref.ensures.value ∙ c.in_ok-text.ensures)
    (subst (IsReadingOf c.deref.result.now) c.in-Refused.is c.in_ok-spec.ensures))
