use Rattle.std.proofs.Common.{sym, ◌∙◌}
use Rattle.dsr_parse.proofs.Passing.{passed_on, next_is, other_is, items_none, items_more, items_done, items_halt}
use Rattle.dsr_parse.proofs.Taking.{begun_shorter}
use Rattle.dsr_parse.proofs.reader.Reader.constraints.Goals as goal

pub loop-constraints-init : goal.loop-constraints-init
loop-constraints-init c = items_none c.new-constraints.ensures.items

pub returns-in_err-constraint-clause-err : goal.returns-in_err-constraint-clause-err
returns-in_err-constraint-clause-err c = passed_on c.from_residual.result c.from_residual.ensures.1 (items_halt (next_is (sym c.is_word.ensures ∙ c.loop-constraints-test.true)) c.loop-constraints.invariant c.in_err-constraint.ensures.err)

pub loop-constraints-smaller : goal.loop-constraints-smaller
loop-constraints-smaller c = begun_shorter c.in_ok-constraint.ensures.ok

pub loop-constraints-preserved : goal.loop-constraints-preserved
loop-constraints-preserved c = items_more (next_is (sym c.is_word.ensures ∙ c.loop-constraints-test.true)) c.in_ok-push.ensures.items c.loop-constraints.invariant c.in_ok-constraint.ensures.ok

pub returns-clause-ok : goal.returns-clause-ok
returns-clause-ok c = items_done (other_is (sym c.is_word.ensures ∙ c.loop-constraints-test.false)) c.loop-constraints.invariant
