use Rattle.std.proofs.Common.{arith}
use Rattle.std.proofs.lemmas.Grind.{elements}
use Rattle.dsr_repair.proofs.fresh.avoided.Goals as goal

pub returns-in_err-pool : goal.returns-in_err-pool
returns-in_err-pool c = grind (arith, elements)

pub returns-in_err-as_ref : goal.returns-in_err-as_ref
returns-in_err-as_ref c = grind (arith, elements)

pub returns : goal.returns
returns c = grind (arith, elements)
