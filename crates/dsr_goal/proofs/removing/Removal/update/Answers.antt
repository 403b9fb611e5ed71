use Rattle.std.proofs.Common.{arith}
use Rattle.std.proofs.lemmas.Grind.{common_steps, elements}
use Rattle.dsr_goal.specs.Removing as removing
use Rattle.dsr_update_theory.specs.Templates as updating
use Rattle.dsr_goal.proofs.removing.Removal.update.Goals as goal

pub returns-in_default : goal.returns-in_default
returns-in_default c = grind (arith, common_steps)

pub returns : goal.returns
returns c = grind (arith, elements)
