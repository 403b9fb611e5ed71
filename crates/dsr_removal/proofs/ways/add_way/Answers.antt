use Rattle.std.proofs.Common.{◌+◌, sym, subst}
use Rattle.dsr_graph.proofs.Found.{ways_only}
use Rattle.dsr_graph.specs.Graphs.{ways_of}
use Rattle.dsr_placement.specs.Placing.{IsLeft}
use Rattle.dsr_removal.proofs.StuckWays.{one_more, one_passed}
use Rattle.dsr_removal.specs.Ways.{AreWaysBefore}
use Rattle.dsr_removal.proofs.ways.add_way.Goals as goal

pub returns-in_default : goal.returns-in_default
returns-in_default c = λ owner template way many before.
    one_passed owner (IsLeft c.args.left.now) c.args.at.conj c.args.at.literal c.args.number _ (c.in_default.ensures owner template way many) before

pub returns : goal.returns
returns c = λ owner template way many before.
    let graph = c.args.graph.now in
    let at = c.args.at in
    subst (AreWaysBefore owner (IsLeft c.args.left.now) at.conj at.literal (c.args.number + 1)) (sym c.in_ok-push.ensures.items)
    (one_more owner (IsLeft c.args.left.now) (ways_of graph at.constraint) (ways_only graph at.constraint owner way.owner_in) at.conj at.literal c.args.number _ c.in-Some.way (c.in-Some.ensures owner template way many) before)
