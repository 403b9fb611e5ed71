-- What `rule_rows` leaves to show.
use Rattle.std.proofs.Common.{◌≡◌, ◌+◌, ◌++◌, length, take, drop, ap, ◌∙◌, arith, rules}
use Rattle.std.proofs.lemmas.Grind.{common_steps, elements}
use Rattle.dsr_effect.specs.Told.{change_of}
use Rattle.dsr_effect.proofs.ChangedRows.{changed_more}
use Rattle.dsr_effect.proofs.FlowLists.{flows_more, flows_same}
use Rattle.dsr_effect.proofs.ListItems.{next_in, take_next}
use Rattle.dsr_effect.proofs.rows.rule_rows.Goals as goal
use Rattle.dsr_effect.proofs.rows.rule_rows.Goals.{in-Some+in_ok-push_passed, in_default}

pub touch-touch-requires-clause-among : goal.touch-touch-requires-clause-among
touch-touch-requires-clause-among c = next_in c.items-rules.result.now c.args.change.now.spec.now.rules c.items-rules.ensures c.loop-rule.rule-index c.loop-rule-test.true c.rule-item.result c.rule-item.is

pub add_changes-requires-clause-among : goal.add_changes-requires-clause-among
add_changes-requires-clause-among c = next_in c.items-rules.result.now c.args.change.now.spec.now.rules c.items-rules.ensures c.loop-rule.rule-index c.loop-rule-test.true c.rule-item.result c.rule-item.is

pub push_passed-requires-clause-among : goal.push_passed-requires-clause-among
push_passed-requires-clause-among c = next_in c.items-rules.result.now c.args.change.now.spec.now.rules c.items-rules.ensures c.loop-rule.rule-index c.loop-rule-test.true c.rule-item.result c.rule-item.is

pub loop-rule-preserved : goal.loop-rule-preserved
loop-rule-preserved c =
    let rules = c.args.change.now.spec.now.rules in
    let i = c.loop-rule.rule-index in
    let new = c.add_changes.new.rows in
    let same : take c.loop-rule.rows.len (new ++ drop (length new) c.loop-rule.rows.items) ≡ new = grind (arith, common_steps) in
    let next = take_next c.items-rules.result.now rules c.items-rules.ensures i c.loop-rule-test.true c.rule-item.result c.rule-item.is in
    rw same (
      c.add_changes.ensures.places ∙ ap length c.deref_mut.ensures.value ∙ c.loop-rule.invariant.0,
      changed_more (change_of c.args.change.now) (take i rules) (take (i + 1) rules) c.rule-item.result c.loop-rule.rows.items new next c.loop-rule.invariant.1 (rw c.deref_mut.ensures.value at c.add_changes.ensures.exactly),
      elim c.match-rule.branch [
        | in-Some+in_ok-push_passed w ↦ rw w.flows-is (flows_more (change_of c.args.change.now) (take i rules) (take (i + 1) rules) c.rule-item.result w.in-Some.premise c.loop-rule.flows.items w.push_passed.new.flows.items next w.in_ok-push_passed.ensures c.loop-rule.invariant.2)
        | in_default w ↦ rw w.flows-is (flows_same (change_of c.args.change.now) (take i rules) (take (i + 1) rules) c.rule-item.result c.loop-rule.flows.items next w.in_default.is c.loop-rule.invariant.2)
      ],
    )

pub loop-rule-init : goal.loop-rule-init
loop-rule-init c = grind (arith, elements)

pub returns-clause-exactly : goal.returns-clause-exactly
returns-clause-exactly c = grind (arith, common_steps)

pub returns-clause-flows : goal.returns-clause-flows
returns-clause-flows c = grind (arith, common_steps)
