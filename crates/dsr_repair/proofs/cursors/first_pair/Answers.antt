use Rattle.dsr_repair.proofs.Pools.{first_may_be}
use Rattle.dsr_repair.proofs.cursors.first_pair.Goals as goal

pub returns-in-Elem : goal.returns-in-Elem
returns-in-Elem c =
    first_may_be c.args.model.now c.args.rel c.in_ok-first.first c.in-Pair.field-0 c.in-Pair.source c.in-Pair.target
    c.in-Elem.target c.in_ok-first.ensures.next c.in_ok-first.ensures.kinds c.in-Pair.is c.in-Elem.is
