use Rattle.std.proofs.Common.{sym, ◌∙◌}
use Rattle.dsr_parse.proofs.Passing.{passed_on, next_is, other_is, items_none, items_more, items_done, items_halt}
use Rattle.dsr_parse.proofs.Taking.{begun_shorter}
use Rattle.dsr_parse.proofs.reader.Reader.sets.Goals as goal

pub loop-sets-init : goal.loop-sets-init
loop-sets-init c = items_none c.new-sets.ensures.items

pub returns-in_err-set-clause-err : goal.returns-in_err-set-clause-err
returns-in_err-set-clause-err c = passed_on c.from_residual.result c.from_residual.ensures.1 (items_halt (next_is (sym c.is_word.ensures ∙ c.loop-sets-test.true)) c.loop-sets.invariant c.in_err-set.ensures.err)

pub loop-sets-smaller : goal.loop-sets-smaller
loop-sets-smaller c = begun_shorter c.in_ok-set.ensures.ok

pub loop-sets-preserved : goal.loop-sets-preserved
loop-sets-preserved c = items_more (next_is (sym c.is_word.ensures ∙ c.loop-sets-test.true)) c.in_ok-push.ensures.items c.loop-sets.invariant c.in_ok-set.ensures.ok

pub returns-clause-ok : goal.returns-clause-ok
returns-clause-ok c = items_done (other_is (sym c.is_word.ensures ∙ c.loop-sets-test.false)) c.loop-sets.invariant
