use Rattle.std.proofs.Common.{arith}
use Rattle.std.proofs.lemmas.Grind.{elements}
use Rattle.dsr_effect.proofs.avoided.is_given_avoided.Goals as goal

pub returns-in_default : goal.returns-in_default
returns-in_default c = grind (arith, elements)

pub returns-then-is_none : goal.returns-then-is_none
returns-then-is_none c = grind (arith, elements)

pub returns-else-is_none : goal.returns-else-is_none
returns-else-is_none c = grind (arith, elements)
