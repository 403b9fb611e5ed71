use Rattle.std.proofs.Common.{sym, ◌∙◌}
use Rattle.dsr_parse.proofs.Passing.{passed_on, next_is, other_is, items_none, items_more, items_done, items_halt}
use Rattle.dsr_parse.proofs.Taking.{begun_shorter}
use Rattle.dsr_parse.proofs.reader.Reader.structures.Goals as goal

pub loop-structures-init : goal.loop-structures-init
loop-structures-init c = items_none c.new-structures.ensures.items

pub returns-in_err-structure-clause-err : goal.returns-in_err-structure-clause-err
returns-in_err-structure-clause-err c = passed_on c.from_residual.result c.from_residual.ensures.1 (items_halt (next_is (sym c.is_word.ensures ∙ c.loop-structures-test.true)) c.loop-structures.invariant c.in_err-structure.ensures.err)

pub loop-structures-smaller : goal.loop-structures-smaller
loop-structures-smaller c = begun_shorter c.in_ok-structure.ensures.ok

pub loop-structures-preserved : goal.loop-structures-preserved
loop-structures-preserved c = items_more (next_is (sym c.is_word.ensures ∙ c.loop-structures-test.true)) c.in_ok-push.ensures.items c.loop-structures.invariant c.in_ok-structure.ensures.ok

pub returns-clause-ok : goal.returns-clause-ok
returns-clause-ok c = items_done (other_is (sym c.is_word.ensures ∙ c.loop-structures-test.false)) c.loop-structures.invariant
