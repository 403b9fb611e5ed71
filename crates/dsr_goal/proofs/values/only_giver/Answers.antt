use Rattle.std.proofs.Common.{option_map, sym, ap, ◌∙◌}
use Rattle.dsr_goal.proofs.Only.{some_mapped, none_mapped, only_stays, only_found, only_second, only_ends}
use Rattle.dsr_goal.proofs.values.only_giver.Goals as goal
use Rattle.dsr_goal.proofs.values.only_giver.Goals.{then-gives+else-is_some, else-gives}

pub loop-number-preserved : goal.loop-number-preserved
loop-number-preserved c = elim c.if-gives.branch [
  | then-gives+else-is_some w ↦ only_found c.args.symbol c.args.spec.now.rules _ c.items-rule-items.ensures c.loop-number.number c.rule-item.result c.loop-number-test.true c.rule-item.is _ _ c.loop-number.invariant (sym c.gives.ensures ∙ w.if-gives.true) (none_mapped _ _ (sym w.is_some.ensures ∙ w.if-is_some.false)) (ap (option_map (λ r. (r.0, r.1.now))) w.found-is)
  | else-gives w ↦ only_stays c.args.symbol c.args.spec.now.rules _ c.items-rule-items.ensures c.loop-number.number c.rule-item.result c.loop-number-test.true c.rule-item.is _ _ c.loop-number.invariant (sym c.gives.ensures ∙ w.if-gives.false) (ap (option_map (λ r. (r.0, r.1.now))) w.found-is)
]

pub returns-then-is_some : goal.returns-then-is_some
returns-then-is_some c = only_second c.args.symbol c.args.spec.now.rules _ c.items-rule-items.ensures c.loop-number.number c.rule-item.result c.loop-number-test.true c.rule-item.is _ _ c.loop-number.invariant (sym c.gives.ensures ∙ c.if-gives.true) (some_mapped _ _ (sym c.is_some.ensures ∙ c.if-is_some.true))

pub returns : goal.returns
returns c = only_ends c.args.symbol c.args.spec.now.rules _ c.items-rule-items.ensures c.loop-number.number c.loop-number-test.false _ _ c.loop-number.invariant
