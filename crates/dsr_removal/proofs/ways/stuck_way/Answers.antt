use Rattle.std.proofs.Common.{◌≡◌, ◌<◌, ◌+◌, sym, subst, ◌∙◌, arith}
use Rattle.std.proofs.Math.Nat.{min-eq_left}
use Rattle.dsr_graph.proofs.Found.{ways_listed, ways_only}
use Rattle.dsr_graph.specs.Graphs.{ways_of}
use Rattle.dsr_placement.proofs.Once.{falsifies_is, falsifies_none}
use Rattle.dsr_placement.specs.Placing.{IsLeft}
use Rattle.dsr_removal.proofs.StuckWays.{falsifying, sparing, way_here}
use Rattle.dsr_removal.specs.Ways.{IsWayAt}
use Rattle.dsr_removal.proofs.ways.stuck_way.Goals as goal

pub returns-then-is_some : goal.returns-then-is_some
returns-then-is_some c = λ owner template way many.
    let graph = c.args.graph.now in
    let at = c.args.at in
    falsifying owner (IsLeft c.args.left.now) (ways_of graph at.constraint) (ways_only graph at.constraint owner way.owner_in) at.conj at.literal c.args.number template way.template_is
    (falsifies_none owner at.conj at.literal template c.falsifies.result (c.falsifies.ensures.falsifies owner template way) (sym c.is_some.ensures ∙ c.if-is_some.true))

pub returns-in_default : goal.returns-in_default
returns-in_default c = λ owner template way many.
    let graph = c.args.graph.now in
    let at = c.args.at in
    sparing owner (IsLeft c.args.left.now) (ways_of graph at.constraint) (ways_only graph at.constraint owner way.owner_in) at.conj at.literal c.args.number template way.template_is
    (c.in_default.ensures owner template way many)

pub returns : goal.returns
returns c = λ owner template way many.
    let graph = c.args.graph.now in
    let at = c.args.at in
    let next : c.way_number.result ≡ c.args.number + 1 = c.way_number.ensures ∙ min-eq_left (omega (arith, c.requires.below)) in
    subst (λ w. IsWayAt owner (IsLeft c.args.left.now) at.conj at.literal (c.args.number + 1) (record { conj = at.conj; literal = at.literal; way = w; breaks = c.in-Some.breaks; reason = c.in-Some.reason })) (sym next)
    (way_here owner (IsLeft c.args.left.now) (ways_of graph at.constraint) (ways_only graph at.constraint owner way.owner_in) at.conj at.literal c.args.number template way.template_is
    (ways_listed graph at.constraint owner way.owner_in at.conj at.literal)
    (falsifies_is owner at.conj at.literal template c.falsifies.result (c.falsifies.ensures.falsifies owner template way) (sym c.is_some.ensures ∙ c.if-is_some.false))
    c.in-Some.breaks c.in-Some.reason (c.in-Some.ensures owner template way many))
