use Rattle.std.proofs.Common.{arith}
use Rattle.std.proofs.lemmas.Grind.{elements}
use Rattle.dsr_meaning.specs.Refusals as meaning
use Rattle.dsr_layout.proofs.count_checks.target_count.Goals as goal

pub returns-in-Some-target : goal.returns-in-Some-target
returns-in-Some-target c = grind (arith, elements)

pub returns-in-None-target : goal.returns-in-None-target
returns-in-None-target c = grind (arith, elements)

pub returns-in-None : goal.returns-in-None
returns-in-None c = grind (arith, elements)
