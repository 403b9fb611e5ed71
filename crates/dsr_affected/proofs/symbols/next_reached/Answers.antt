use Rattle.std.proofs.Common.{IsTrue, sym, ◌∙◌, false, ◌≡◌, subst}
use Rattle.dsr_affected.specs.Marking.{has_mark, is_reached}
use Rattle.dsr_affected.proofs.Marking.{below_next, both_are, passed_is, there_got, within}
use Rattle.dsr_ir.specs.Rules.{symbol_of}
use Rattle.dsr_affected.proofs.symbols.next_reached.Goals as goal

pub loop-rule-preserved : goal.loop-rule-preserved
loop-rule-preserved c =
    below_next (λ _ rule. IsTrue (is_reached c.args.spec.now.base c.args.fields.now c.args.marks.now rule) → IsTrue (has_mark c.args.marks.now (symbol_of rule.inc))) c.args.spec.now.rules c.loop-rule.rule-index c.rule-item.result
    (there_got c.items-rule-items.result.now c.args.spec.now.rules c.loop-rule.rule-index c.rule-item.result c.items-rule-items.ensures c.loop-rule-test.true c.rule-item.is)
    c.loop-rule.invariant
    (passed_is (has_mark c.args.marks.now (symbol_of c.rule-item.result.inc)) (is_reached c.args.spec.now.base c.args.fields.now c.args.marks.now c.rule-item.result)
    (sym c.is_next.ensures ∙ c.if-is_next.false))

pub returns-then-is_next : goal.returns-then-is_next
returns-then-is_next c =
    let both = both_are (has_mark c.args.marks.now (symbol_of c.rule-item.result.inc)) (is_reached c.args.spec.now.base c.args.fields.now c.args.marks.now c.rule-item.result) (sym c.is_next.ensures ∙ c.if-is_next.true) in
    record {
      unmarked = subst (λ s. has_mark c.args.marks.now s ≡ false) (sym c.symbol.ensures) both.0;
      number = c.loop-rule.rule-index;
      rule = c.rule-item.result;
      rule_is = there_got c.items-rule-items.result.now c.args.spec.now.rules c.loop-rule.rule-index c.rule-item.result c.items-rule-items.ensures c.loop-rule-test.true c.rule-item.is;
      gives = sym c.symbol.ensures;
      reached = both.1;
    }

pub returns : goal.returns
returns c = λ k rule there. c.loop-rule.invariant k rule (within c.items-rule-items.result.now c.args.spec.now.rules c.loop-rule.rule-index k rule c.items-rule-items.ensures c.loop-rule-test.false there) there
