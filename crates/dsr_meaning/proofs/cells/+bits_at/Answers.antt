use Rattle.std.proofs.Common.{arith}
use Rattle.dsr_meaning.proofs.Powers.{bit_step}
use Rattle.dsr_meaning.proofs.cells.+bits_at.Goals as goal

pub returns-clause-small : goal.returns-clause-small
returns-clause-small t c = omega (arith, bit_step c.args.width (omega arith))
