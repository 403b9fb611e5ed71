use Rattle.dsr_goal.proofs.Givers.{flat_last, flat_next}
use Rattle.dsr_goal.proofs.supplies.supplies_at_each.Goals as goal

pub loop-var-preserved : goal.loop-var-preserved
loop-var-preserved c = flat_next _ c.args.variables.now c.loop-var.var-index _ c.loop-var-test.true c.in_ok-push_made.ensures c.loop-var.invariant c.in_ok-made.ensures

pub returns : goal.returns
returns c = flat_last _ c.args.variables.now c.loop-var.var-index c.loop-var-test.false c.loop-var.invariant
