use Rattle.std.proofs.Common.{arith}
use Rattle.std.proofs.lemmas.Grind.{elements}
use Rattle.dsr_answers.specs.Texts as texts
use Rattle.dsr_answers.proofs.names.field_name.Goals as goal

pub returns-in_default : goal.returns-in_default
returns-in_default c = grind (arith, elements)

pub returns-in-Some-get : goal.returns-in-Some-get
returns-in-Some-get c = grind (arith, elements)

pub returns-in-None : goal.returns-in-None
returns-in-None c = grind (arith, elements)
