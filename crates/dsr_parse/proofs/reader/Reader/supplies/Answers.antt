use Rattle.std.proofs.Common.{sym, ◌∙◌}
use Rattle.dsr_parse.proofs.Passing.{passed_on, next_is, other_is, items_none, items_more, items_done, items_halt}
use Rattle.dsr_parse.proofs.Taking.{begun_shorter}
use Rattle.dsr_parse.proofs.reader.Reader.supplies.Goals as goal

pub loop-supplies-init : goal.loop-supplies-init
loop-supplies-init c = items_none c.new-supplies.ensures.items

pub returns-in_err-fresh-clause-err : goal.returns-in_err-fresh-clause-err
returns-in_err-fresh-clause-err c = passed_on c.from_residual.result c.from_residual.ensures.1 (items_halt (next_is (sym c.is_word.ensures ∙ c.loop-supplies-test.true)) c.loop-supplies.invariant c.in_err-fresh.ensures.err)

pub loop-supplies-smaller : goal.loop-supplies-smaller
loop-supplies-smaller c = begun_shorter c.in_ok-fresh.ensures.ok

pub loop-supplies-preserved : goal.loop-supplies-preserved
loop-supplies-preserved c = items_more (next_is (sym c.is_word.ensures ∙ c.loop-supplies-test.true)) c.in_ok-push.ensures.items c.loop-supplies.invariant c.in_ok-fresh.ensures.ok

pub returns-clause-ok : goal.returns-clause-ok
returns-clause-ok c = items_done (other_is (sym c.is_word.ensures ∙ c.loop-supplies-test.false)) c.loop-supplies.invariant
