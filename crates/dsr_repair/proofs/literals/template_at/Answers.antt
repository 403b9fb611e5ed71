use Rattle.std.proofs.Common.{arith}
use Rattle.std.proofs.lemmas.Grind.{elements}
use Rattle.dsr_repair.proofs.literals.template_at.Goals as goal

pub returns-in_err-template : goal.returns-in_err-template
returns-in_err-template c = grind (arith, elements)

pub returns-in-By : goal.returns-in-By
returns-in-By c = grind (arith, elements)

pub returns-in-Test : goal.returns-in-Test
returns-in-Test c = grind (arith, elements)
