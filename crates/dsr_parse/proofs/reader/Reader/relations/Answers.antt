use Rattle.std.proofs.Common.{sym, ◌∙◌}
use Rattle.dsr_parse.proofs.Passing.{passed_on, next_is, other_is, items_none, items_more, items_done, items_halt}
use Rattle.dsr_parse.proofs.Taking.{begun_shorter}
use Rattle.dsr_parse.proofs.reader.Reader.relations.Goals as goal

pub loop-relations-init : goal.loop-relations-init
loop-relations-init c = items_none c.new-relations.ensures.items

pub returns-in_err-relation-clause-err : goal.returns-in_err-relation-clause-err
returns-in_err-relation-clause-err c = passed_on c.from_residual.result c.from_residual.ensures.1 (items_halt (next_is (sym c.is_word.ensures ∙ c.loop-relations-test.true)) c.loop-relations.invariant c.in_err-relation.ensures.err)

pub loop-relations-smaller : goal.loop-relations-smaller
loop-relations-smaller c = begun_shorter c.in_ok-relation.ensures.ok

pub loop-relations-preserved : goal.loop-relations-preserved
loop-relations-preserved c = items_more (next_is (sym c.is_word.ensures ∙ c.loop-relations-test.true)) c.in_ok-push.ensures.items c.loop-relations.invariant c.in_ok-relation.ensures.ok

pub returns-clause-ok : goal.returns-clause-ok
returns-clause-ok c = items_done (other_is (sym c.is_word.ensures ∙ c.loop-relations-test.false)) c.loop-relations.invariant
