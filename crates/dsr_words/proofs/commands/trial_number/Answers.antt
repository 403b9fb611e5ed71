use Rattle.std.proofs.Common.{◌∙◌, arith}
use Rattle.dsr_words.proofs.TrialNumbers.{parsed}
use Rattle.dsr_words.proofs.commands.trial_number.Goals as goal

pub returns : goal.returns
returns c = c.ok.ensures.value ∙ parsed c.args.word.now c.parse.result c.parse.ensures.value.0 (grind arith) (omega arith)
