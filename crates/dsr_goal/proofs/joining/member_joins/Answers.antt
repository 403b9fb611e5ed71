use Rattle.dsr_goal.proofs.Givers.{each_last, each_next}
use Rattle.dsr_goal.proofs.joining.member_joins.Goals as goal

pub loop-number-preserved : goal.loop-number-preserved
loop-number-preserved c = each_next _ c.args.spec.now.rules _ c.items-rule-items.ensures c.loop-number.number c.rule-item.result c.loop-number-test.true c.rule-item.is c.in_ok-push_made.ensures c.loop-number.invariant c.in_ok-made.ensures

pub returns : goal.returns
returns c = each_last _ c.args.spec.now.rules _ c.items-rule-items.ensures c.loop-number.number c.loop-number-test.false c.loop-number.invariant
