use Rattle.std.proofs.Common.{arith}
use Rattle.std.proofs.lemmas.Grind.{common_steps}
use Rattle.dsr_compensate.specs.Preventing as said
use Rattle.dsr_graph_theory.specs.Candidates as candidates
use Rattle.dsr_update_theory.specs.Changes as changes
use Rattle.dsr_update_theory.specs.Touching as touching
use Rattle.dsr_compensate.proofs.preventing.reads_field.Goals as goal

pub returns-then-eq : goal.returns-then-eq
returns-then-eq c = grind (arith, common_steps)

pub loop-guard-preserved : goal.loop-guard-preserved
loop-guard-preserved c = grind (arith, common_steps)

pub returns-in-Some : goal.returns-in-Some
returns-in-Some c = grind (arith, common_steps)

pub returns-in-None : goal.returns-in-None
returns-in-None c = grind (arith, common_steps)
