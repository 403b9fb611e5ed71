-- All members of a set come up to its greatest one.
use Rattle.dsr_repair.proofs.Filled.{last_within}
use Rattle.dsr_repair.proofs.fresh.last_slot.Goals as goal

pub returns : goal.returns
returns c =
    last_within c.args.model.now c.args.set c.args.pool c.in_ok-greatest.greatest c.slot_in-2.result c.slot_in-2.ensures
    c.in_ok-greatest.ensures c.in_ok-least.ensures.kinds
