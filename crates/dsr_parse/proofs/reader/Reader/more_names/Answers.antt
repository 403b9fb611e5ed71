use Rattle.std.proofs.Common.{sym, arith, ◌∙◌}
use Rattle.dsr_parse.proofs.Passing.{passed_on, next_is, other_is, halts_rest, reads_then, reads_within, said_shorter, items_none, items_more, items_done, items_halt}
use Rattle.dsr_parse.proofs.Taking.{none_known, reads_to, some_next, some_read}
use Rattle.dsr_parse.proofs.reader.Reader.more_names.Goals as goal

pub loop-names-init : goal.loop-names-init
loop-names-init c = items_none c.new-names.ensures.items

pub returns-in_err-name-clause-err : goal.returns-in_err-name-clause-err
returns-in_err-name-clause-err c = passed_on c.from_residual.result c.from_residual.ensures.1 (items_halt (next_is (some_next c.take_sign.result (sym c.is_some.ensures ∙ c.loop-names-test.true) c.take_sign.ensures.next)) c.loop-names.invariant (halts_rest (some_read c.take_sign.result (sym c.is_some.ensures ∙ c.loop-names-test.true) c.take_sign.ensures.some) c.in_err-name.ensures.err))

pub loop-names-smaller : goal.loop-names-smaller
loop-names-smaller c = let m = reads_within (some_read c.take_sign.result (sym c.is_some.ensures ∙ c.loop-names-test.true) c.take_sign.ensures.some) in let n = said_shorter c.in_ok-name.ensures.ok in omega arith

pub loop-names-preserved : goal.loop-names-preserved
loop-names-preserved c = items_more (next_is (some_next c.take_sign.result (sym c.is_some.ensures ∙ c.loop-names-test.true) c.take_sign.ensures.next)) c.in_ok-push.ensures.items c.loop-names.invariant (reads_then (some_read c.take_sign.result (sym c.is_some.ensures ∙ c.loop-names-test.true) c.take_sign.ensures.some) c.in_ok-name.ensures.ok)

pub returns-clause-ok : goal.returns-clause-ok
returns-clause-ok c = reads_to (none_known c.take_sign.result (sym c.is_some.ensures ∙ c.loop-names-test.false) c.take_sign.ensures.same) (items_done (other_is (none_known c.take_sign.result (sym c.is_some.ensures ∙ c.loop-names-test.false) c.take_sign.ensures.none)) c.loop-names.invariant)
