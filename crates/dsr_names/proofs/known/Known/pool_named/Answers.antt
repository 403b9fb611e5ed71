use Rattle.std.proofs.Common.{arith}
use Rattle.std.proofs.lemmas.Grind.{elements}
use Rattle.dsr_names.proofs.known.Known.pool_named.Goals as goal

pub returns : goal.returns
returns c = grind (arith, elements)
