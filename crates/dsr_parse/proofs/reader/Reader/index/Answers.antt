use Rattle.dsr_parse.proofs.Passing.{halts_left, halts_rest, next_is, other_is, passed_on, reads_left, reads_then}
use Rattle.dsr_parse.proofs.Taking.{none_known, reads_nothing, some_next, some_read}
use Rattle.std.proofs.Common.{ap, not, refl, ◌∙◌}
use Rattle.dsr_parse.proofs.reader.Reader.index.Goals as goal

pub returns-then-is_none-clause-ok : goal.returns-then-is_none-clause-ok
returns-then-is_none-clause-ok c = reads_nothing refl (none_known c.take_sign.result (c.is_none.ensures ∙ ap not c.if-is_none.true) c.take_sign.ensures.same) (other_is (none_known c.take_sign.result (c.is_none.ensures ∙ ap not c.if-is_none.true) c.take_sign.ensures.none))

pub returns-in_err-name_before-clause-err : goal.returns-in_err-name_before-clause-err
returns-in_err-name_before-clause-err c = passed_on c.from_residual.result c.from_residual.ensures.1 (halts_left (next_is (some_next c.take_sign.result (c.is_none.ensures ∙ ap not c.if-is_none.false) c.take_sign.ensures.next)) (halts_rest (some_read c.take_sign.result (c.is_none.ensures ∙ ap not c.if-is_none.false) c.take_sign.ensures.some) c.in_err-name_before.ensures.err))

pub returns-clause-ok : goal.returns-clause-ok
returns-clause-ok c = reads_left (next_is (some_next c.take_sign.result (c.is_none.ensures ∙ ap not c.if-is_none.false) c.take_sign.ensures.next)) (reads_then (some_read c.take_sign.result (c.is_none.ensures ∙ ap not c.if-is_none.false) c.take_sign.ensures.some) c.in_ok-name_before.ensures.ok)
