use Rattle.dsr_repair.proofs.Placed.{first_is_next, none_is_left}
use Rattle.dsr_model.specs.Facts.{IsInModel}
use Rattle.dsr_repair.proofs.cursors.next_from.Goals as goal

pub returns-in-Some : goal.returns-in-Some
returns-in-Some c =
    first_is_next (IsInModel c.args.model.now) c.args.spec.now c.args.choice.now c.args.cursor.now.order.items
    c.requires.cursor.ordered (c.in-Some.constraint, c.in-Some.binding) c.in-Some.ensures

pub returns-in-None : goal.returns-in-None
returns-in-None c =
    none_is_left (IsInModel c.args.model.now) c.args.spec.now c.args.choice.now c.args.cursor.now.order.items
    c.requires.cursor.ordered c.requires.as_many c.in-None.ensures
