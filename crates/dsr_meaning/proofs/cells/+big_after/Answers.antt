use Rattle.std.proofs.Common.{◌<◌, ◌-◌, ◌*◌, ◌^◌, ap, arith}
use Rattle.dsr_meaning.proofs.Powers.{big_value, next_part, next_small, room}
use Rattle.dsr_meaning.proofs.cells.+big_after.Goals as goal

pub overflow_mul-before : goal.overflow_mul-before
overflow_mul-before t c = omega (arith, room c.args.before 0 c.args.count (omega arith) (omega arith) c.requires.small)

pub overflow_add-before : goal.overflow_add-before
overflow_add-before t c =
    let byte : c.from.result < 256 = omega (arith, c.from.ensures, c.type_inv.bytes c.args.at) in
    omega (arith, room c.args.before c.from.result c.args.count (omega arith) byte c.requires.small)

pub big_after-requires : goal.big_after-requires
big_after-requires t c =
    let byte : c.from.result < 256 = omega (arith, c.from.ensures, c.type_inv.bytes c.args.at) in
    (omega arith, (omega arith, next_small c.args.before c.from.result c.args.count (omega arith) byte c.requires.small))

pub returns : goal.returns
returns t c =
    let some : 0 < c.args.count = omega arith in
    let byte : c.from.result < 256 = omega (arith, c.from.ensures, c.type_inv.bytes c.args.at) in
    omega (arith, c.big_after.ensures, next_part c.args.before c.from.result c.args.count some byte, big_value c.args.bytes.now c.args.at c.args.count some, ap (λ d. d * 256 ^ (c.args.count - 1)) c.from.ensures)
