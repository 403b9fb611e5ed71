use Rattle.std.proofs.Common.{sym, ◌∙◌}
use Rattle.dsr_parse.proofs.Passing.{passed_on, next_is, other_is, items_none, items_more, items_done, items_halt}
use Rattle.dsr_parse.proofs.Taking.{begun_shorter}
use Rattle.dsr_parse.proofs.reader.Reader.rules.Goals as goal

pub loop-rules-init : goal.loop-rules-init
loop-rules-init c = items_none c.new-rules.ensures.items

pub returns-in_err-rule-clause-err : goal.returns-in_err-rule-clause-err
returns-in_err-rule-clause-err c = passed_on c.from_residual.result c.from_residual.ensures.1 (items_halt (next_is (sym c.is_word.ensures ∙ c.loop-rules-test.true)) c.loop-rules.invariant c.in_err-rule.ensures.err)

pub loop-rules-smaller : goal.loop-rules-smaller
loop-rules-smaller c = begun_shorter c.in_ok-rule.ensures.ok

pub loop-rules-preserved : goal.loop-rules-preserved
loop-rules-preserved c = items_more (next_is (sym c.is_word.ensures ∙ c.loop-rules-test.true)) c.in_ok-push.ensures.items c.loop-rules.invariant c.in_ok-rule.ensures.ok

pub returns-clause-ok : goal.returns-clause-ok
returns-clause-ok c = items_done (other_is (sym c.is_word.ensures ∙ c.loop-rules-test.false)) c.loop-rules.invariant
