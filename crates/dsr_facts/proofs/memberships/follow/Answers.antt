use Rattle.std.proofs.Common.{◌<◌, sym, subst}
use Rattle.dsr_facts.proofs.Following.{ends_marked, ends_none, fewer_open, follow_begins, follow_more, follow_within}
use Rattle.dsr_facts.proofs.memberships.follow.Goals as goal

pub loop-next-init : goal.loop-next-init
loop-next-init c = follow_begins c.args.spec.now c.args.marks.now c.args.set c.requires.typed c.requires.declared c.told-marks c.requires.closed

pub bounds-marks-current : goal.bounds-marks-current
bounds-marks-current c = follow_within c.args.spec.now c.args.marks.now c.args.set c.loop-next.marks c.loop-next.next c.in-Some.current c.in-Some.is c.loop-next.invariant

pub returns-then-marks-current : goal.returns-then-marks-current
returns-then-marks-current c = ends_marked c.args.spec.now c.args.marks.now c.args.set c.loop-next.marks c.loop-next.next c.in-Some.current c.in-Some.is c.if-marks-current.true c.loop-next.invariant

pub loop-next-smaller : goal.loop-next-smaller
loop-next-smaller c =
    fewer_open c.loop-next.marks c.in-Some.current
    (subst (λ n. c.in-Some.current < n) (sym c.loop-next.invariant.places) (follow_within c.args.spec.now c.args.marks.now c.args.set c.loop-next.marks c.loop-next.next c.in-Some.current c.in-Some.is c.loop-next.invariant))
    c.if-marks-current.false

pub loop-next-preserved : goal.loop-next-preserved
loop-next-preserved c =
    follow_more c.args.spec.now c.args.marks.now c.args.set c.loop-next.marks c.loop-next.next c.in-Some.current c.in-Some.is c.requires.typed c.loop-next.invariant c.below-next.result c.below-next.ensures

pub returns : goal.returns
returns c = ends_none c.args.spec.now c.args.marks.now c.args.set c.loop-next.marks c.loop-next.next c.in_default.is c.loop-next.invariant
