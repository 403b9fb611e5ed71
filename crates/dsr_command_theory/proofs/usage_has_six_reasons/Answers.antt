use Rattle.dsr_command_theory.proofs.Nothing.{asks, none_comes, reason, reasonless, said}
use Rattle.dsr_command_theory.proofs.usage_has_six_reasons.Goals as goal

pub returns : goal.returns
returns c = record {
  nothing = λ words. (reason words, none_comes words);
  others = λ words asked. (λ some. (asks words asked some, reasonless words asked some), λ says. said words asked says.0 says.1);
}
