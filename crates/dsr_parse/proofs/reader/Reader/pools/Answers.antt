use Rattle.std.proofs.Common.{sym, ◌∙◌}
use Rattle.dsr_parse.proofs.Passing.{passed_on, next_is, other_is, items_none, items_more, items_done, items_halt}
use Rattle.dsr_parse.proofs.Taking.{begun_shorter}
use Rattle.dsr_parse.proofs.reader.Reader.pools.Goals as goal

pub loop-pools-init : goal.loop-pools-init
loop-pools-init c = items_none c.new-pools.ensures.items

pub returns-in_err-pool-clause-err : goal.returns-in_err-pool-clause-err
returns-in_err-pool-clause-err c = passed_on c.from_residual.result c.from_residual.ensures.1 (items_halt (next_is (sym c.is_word.ensures ∙ c.loop-pools-test.true)) c.loop-pools.invariant c.in_err-pool.ensures.err)

pub loop-pools-smaller : goal.loop-pools-smaller
loop-pools-smaller c = begun_shorter c.in_ok-pool.ensures.ok

pub loop-pools-preserved : goal.loop-pools-preserved
loop-pools-preserved c = items_more (next_is (sym c.is_word.ensures ∙ c.loop-pools-test.true)) c.in_ok-push.ensures.items c.loop-pools.invariant c.in_ok-pool.ensures.ok

pub returns-clause-ok : goal.returns-clause-ok
returns-clause-ok c = items_done (other_is (sym c.is_word.ensures ∙ c.loop-pools-test.false)) c.loop-pools.invariant
