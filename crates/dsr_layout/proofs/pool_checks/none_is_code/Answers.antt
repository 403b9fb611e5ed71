use Rattle.std.proofs.Common.{arith}
use Rattle.std.proofs.lemmas.Grind.{common_steps}
use Rattle.dsr_meaning.specs.Refusals as meaning
use Rattle.dsr_layout.proofs.pool_checks.none_is_code.Goals as goal

pub returns-then-is_none_code : goal.returns-then-is_none_code
returns-then-is_none_code c = grind (arith, common_steps)

pub loop-i-preserved : goal.loop-i-preserved
loop-i-preserved c = grind (arith, common_steps)

pub returns : goal.returns
returns c = grind (arith, common_steps)
