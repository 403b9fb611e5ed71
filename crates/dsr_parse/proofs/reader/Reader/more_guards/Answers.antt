use Rattle.std.proofs.Common.{sym, ◌∙◌, arith}
use Rattle.dsr_parse.proofs.Passing.{passed_on, next_is, other_is, halts_rest, reads_then, reads_within, items_none, items_more, items_done, items_halt}
use Rattle.dsr_parse.proofs.Taking.{some_read, some_next, some_shorter, none_known, reads_to}
use Rattle.dsr_parse.proofs.reader.Reader.more_guards.Goals as goal

pub loop-guards-init : goal.loop-guards-init
loop-guards-init c = items_none c.new-guards.ensures.items

pub returns-in_err-guard-clause-err : goal.returns-in_err-guard-clause-err
returns-in_err-guard-clause-err c = passed_on c.from_residual.result c.from_residual.ensures.1 (items_halt (next_is (some_next c.take_word.result (sym c.is_some.ensures ∙ c.loop-guards-test.true) c.take_word.ensures.next)) c.loop-guards.invariant (halts_rest (some_read c.take_word.result (sym c.is_some.ensures ∙ c.loop-guards-test.true) c.take_word.ensures.some) c.in_err-guard.ensures.err))

pub loop-guards-smaller : goal.loop-guards-smaller
loop-guards-smaller c = let less = some_shorter _ _ _ _ c.take_word.result (sym c.is_some.ensures ∙ c.loop-guards-test.true) c.take_word.ensures.some in let within = reads_within c.in_ok-guard.ensures.ok in omega arith

pub loop-guards-preserved : goal.loop-guards-preserved
loop-guards-preserved c = items_more (next_is (some_next c.take_word.result (sym c.is_some.ensures ∙ c.loop-guards-test.true) c.take_word.ensures.next)) c.in_ok-push.ensures.items c.loop-guards.invariant (reads_then (some_read c.take_word.result (sym c.is_some.ensures ∙ c.loop-guards-test.true) c.take_word.ensures.some) c.in_ok-guard.ensures.ok)

pub returns-clause-ok : goal.returns-clause-ok
returns-clause-ok c = reads_to (none_known c.take_word.result (sym c.is_some.ensures ∙ c.loop-guards-test.false) c.take_word.ensures.same) (items_done (other_is (none_known c.take_word.result (sym c.is_some.ensures ∙ c.loop-guards-test.false) c.take_word.ensures.none)) c.loop-guards.invariant)
