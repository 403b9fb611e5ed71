use Rattle.std.proofs.Common.{sym, ◌∙◌}
use Rattle.dsr_goal.proofs.Writes.{true_ends, true_next, true_stops}
use Rattle.dsr_goal.proofs.adding.all_true.Goals as goal

pub loop-place-preserved : goal.loop-place-preserved
loop-place-preserved c = true_next c.args.base.now c.args.guards.now c.loop-place.place _ c.loop-place-test.true c.loop-place.writes.items _ c.loop-place.invariant c.in-Some.write c.in_ok-push.ensures.items (sym c.sole_write.ensures ∙ c.in-Some.is)

pub returns-in_default : goal.returns-in_default
returns-in_default c = true_stops c.args.base.now c.args.guards.now c.loop-place.place _ c.loop-place-test.true c.loop-place.writes.items _ c.loop-place.invariant (sym c.sole_write.ensures ∙ c.in_default.is)

pub returns : goal.returns
returns c = true_ends c.args.base.now c.args.guards.now c.loop-place.place c.loop-place-test.false c.loop-place.invariant
