use Rattle.dsr_placement.proofs.Counted.{way_if}
use Rattle.dsr_placement.specs.Placing.{IsLeft}
use Rattle.dsr_placement.proofs.testing.way.Goals as goal

pub returns : goal.returns
returns c = λ owner in_graph many literal_is.
    way_if c.args.graph.now c.args.at owner in_graph (IsLeft c.args.left.now) c.args.literal.now literal_is c.first_usable.result c.if-literal.false (c.first_usable.ensures owner in_graph many)
