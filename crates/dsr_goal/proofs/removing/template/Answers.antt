use Rattle.std.proofs.Common.{arith}
use Rattle.std.proofs.lemmas.Grind.{common_steps}
use Rattle.std.proofs.lemmas.List.Elements.{filter_map-append}
use Rattle.dsr_goal.proofs.removing.template.Goals as goal

pub loop-removal-preserved : goal.loop-removal-preserved
loop-removal-preserved c = grind (arith, common_steps, filter_map-append)

pub returns : goal.returns
returns c = grind (arith, common_steps)
