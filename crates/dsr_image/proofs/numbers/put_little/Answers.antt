use Rattle.std.proofs.Common.{◌≡◌, ◌+◌, ◌-◌, arith, rules}
use Rattle.dsr_image.proofs.Placed.{little_read, others_stay}
use Rattle.dsr_image.proofs.numbers.put_little.Goals as goal

pub returns-in_default-clause-got : goal.returns-in_default-clause-got
returns-in_default-clause-got c =
    let wide : c.args.width ≡ 64 = search rules in
    rw wide (little_read c.args.at (c.args.at + 8 - c.args.at) c.args.bytes.now c.write_u64.new.buf (omega arith) 8 c.args.value _ (omega arith) c.write_u64.ensures)

pub returns-in_default-clause-others : goal.returns-in_default-clause-others
returns-in_default-clause-others c =
    let wide : c.args.width ≡ 64 = search rules in
    others_stay c.args.at (c.args.at + 8 - c.args.at) c.args.bytes.now c.write_u64.new.buf (omega arith) c.args.width (search rules) (omega arith)
