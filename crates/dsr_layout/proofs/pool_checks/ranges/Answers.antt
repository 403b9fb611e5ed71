use Rattle.std.proofs.Common.{arith}
use Rattle.std.proofs.lemmas.Grind.{common_steps}
use Rattle.dsr_meaning.specs.Refusals as meaning
use Rattle.dsr_layout.proofs.pool_checks.ranges.Goals as goal

pub loop-pool-preserved : goal.loop-pool-preserved
loop-pool-preserved c = grind (arith, common_steps)

pub returns : goal.returns
returns c = grind (arith, common_steps)
