-- As many members as slots are all of these.
use Rattle.std.proofs.Common.{◌≡◌, ◌+◌, arith}
use Rattle.dsr_repair.proofs.Filled.{filled}
use Rattle.dsr_repair.proofs.fresh.filled_to.Goals as goal

pub returns-then-members-from : goal.returns-then-members-from
returns-then-members-from c =
    let same = c.if-members-from.true in
    let from = c.from.ensures in
    let many : c.size-members.result ≡ c.in-Some.last + 1 = omega (arith, same, from) in
    filled c.args.model.now c.args.set c.args.pool c.size-members.result c.in-Some.last many c.size-members.ensures c.in-Some.ensures
