use Rattle.std.proofs.Common.{sym}
use Rattle.dsr_repair.proofs.Pools.{may_be}
use Rattle.dsr_repair.proofs.cursors.are_of_relation.Goals as goal

pub returns : goal.returns
returns c = λ yes.
    may_be c.args.model.now.relations c.args.rel c.in-Some.from c.in-Some.to c.args.source c.args.target c.in-Some.ensures
    (sym (c.is_of_pool.ensures c.if-not-is_of_pool.false)) (sym (c.is_of_pool-2.ensures yes))
