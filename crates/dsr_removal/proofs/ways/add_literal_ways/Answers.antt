use Rattle.std.proofs.Common.{arith}
use Rattle.dsr_graph.proofs.Found.{ways_only}
use Rattle.dsr_graph.specs.Graphs.{ways_of}
use Rattle.dsr_placement.specs.Placing.{IsLeft}
use Rattle.dsr_removal.proofs.StuckWays.{next_literal}
use Rattle.dsr_removal.proofs.ways.add_literal_ways.Goals as goal
use Rattle.dsr_meaning.proofs.Items.{item_there}

pub loop-number-preserved : goal.loop-number-preserved
loop-number-preserved c = λ owner in_graph many before.
    let at = c.args.at in
    let less = c.loop-number-test.true in
    let count_is = c.way_count-number-end.ensures.all owner in_graph in
    let its = item_there (ways_of c.args.graph.now at.constraint at.conj at.literal) c.loop-number.number (omega (arith, less, count_is)) in
    c.in_ok-add_way.ensures owner its.0 (record { owner_in = in_graph; template_is = its.1 }) many (c.loop-number.invariant owner in_graph many before)

pub returns : goal.returns
returns c = λ owner in_graph many before.
    let at = c.args.at in
    let past = c.loop-number-test.false in
    let count_is = c.way_count-number-end.ensures.all owner in_graph in
    next_literal owner (IsLeft c.args.left.now) (ways_of c.args.graph.now at.constraint) (ways_only c.args.graph.now at.constraint owner in_graph) at.conj at.literal c.loop-number.number _ (omega (arith, past, count_is)) (c.loop-number.invariant owner in_graph many before)
