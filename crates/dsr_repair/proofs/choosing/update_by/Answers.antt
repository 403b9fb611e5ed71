use Rattle.std.proofs.Common.{arith}
use Rattle.std.proofs.lemmas.Grind.{elements}
use Rattle.dsr_repair.proofs.choosing.update_by.Goals as goal

pub returns-then-takes_away : goal.returns-then-takes_away
returns-then-takes_away c = grind (arith, elements)

pub loop-place-preserved : goal.loop-place-preserved
loop-place-preserved c = grind (arith, elements)

pub returns : goal.returns
returns c = grind (arith, elements)
