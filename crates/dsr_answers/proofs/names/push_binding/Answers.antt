use Rattle.std.proofs.Common.{arith}
use Rattle.std.proofs.lemmas.Grind.{common_steps}
use Rattle.dsr_answers.specs.Texts as texts
use Rattle.dsr_answers.proofs.names.push_binding.Goals as goal

pub returns-in_ok-push_element-in-Pair-2 : goal.returns-in_ok-push_element-in-Pair-2
returns-in_ok-push_element-in-Pair-2 c = grind (arith, common_steps)
