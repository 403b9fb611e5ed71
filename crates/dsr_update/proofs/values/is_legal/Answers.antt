use Rattle.std.proofs.Common.{arith}
use Rattle.std.proofs.lemmas.Grind.{elements}
use Rattle.dsr_ir.specs.Layouts as layouts
use Rattle.dsr_step_theory.specs.Steps as said
use Rattle.dsr_update.proofs.values.is_legal.Goals as goal

pub returns-in_default : goal.returns-in_default
returns-in_default c = grind (arith, elements)
