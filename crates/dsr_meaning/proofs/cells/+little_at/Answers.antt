use Rattle.std.proofs.Common.{arith}
use Rattle.dsr_meaning.proofs.Powers.{byte_step, byte_limit}
use Rattle.dsr_meaning.proofs.cells.+little_at.Goals as goal

pub overflow_mul-result : goal.overflow_mul-result
overflow_mul-result t c = omega (arith, byte_step c.args.count (omega arith), byte_limit c.args.count c.requires.small)

pub overflow_add-result : goal.overflow_add-result
overflow_add-result t c = omega (arith, byte_step c.args.count (omega arith), byte_limit c.args.count c.requires.small)

pub returns-clause-small : goal.returns-clause-small
returns-clause-small t c = omega (arith, byte_step c.args.count (omega arith), byte_limit c.args.count c.requires.small)
