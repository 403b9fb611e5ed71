use Rattle.std.proofs.Common.{arith}
use Rattle.std.proofs.lemmas.Grind.{common_steps}
use Rattle.dsr_answers.proofs.texts.push.Goals as goal

pub returns-in_ok-push-in-len1 : goal.returns-in_ok-push-in-len1
returns-in_ok-push-in-len1 c = grind (arith, common_steps)
