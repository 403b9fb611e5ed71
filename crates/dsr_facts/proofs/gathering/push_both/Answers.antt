use Rattle.std.proofs.Common.{arith}
use Rattle.std.proofs.lemmas.Grind.{common_steps}
use Rattle.dsr_update_theory.specs.Facts as said
use Rattle.dsr_facts.proofs.gathering.push_both.Goals as goal

pub returns : goal.returns
returns c = grind (arith, common_steps)
