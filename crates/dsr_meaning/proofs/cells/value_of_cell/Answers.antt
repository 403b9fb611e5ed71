use Rattle.std.proofs.Common.{◌/◌, arith}
use Rattle.dsr_meaning.proofs.Powers.{byte_limit}
use Rattle.dsr_meaning.proofs.cells.value_of_cell.Goals as goal

pub big_after-requires-clause-small : goal.big_after-requires-clause-small
big_after-requires-clause-small c = omega (arith, byte_limit (c.from-width.result / 8) (omega arith))
