use Rattle.std.proofs.Common.{refl, ap, not, ◌∙◌}
use Rattle.dsr_parse.proofs.Passing.{passed_on, next_is, other_is, halts_rest, halts_left, reads_then, reads_left, reads_none}
use Rattle.dsr_parse.proofs.Taking.{none_known, reads_to, some_next, some_read}
use Rattle.dsr_parse.proofs.reader.Reader.parent.Goals as goal

pub returns-then-is_none-clause-ok : goal.returns-then-is_none-clause-ok
returns-then-is_none-clause-ok c = reads_to (none_known c.take_word.result (c.is_none.ensures ∙ ap not c.if-is_none.true) c.take_word.ensures.same) (reads_none refl (other_is (none_known c.take_word.result (c.is_none.ensures ∙ ap not c.if-is_none.true) c.take_word.ensures.none)))

pub returns-in_err-name-clause-err : goal.returns-in_err-name-clause-err
returns-in_err-name-clause-err c = passed_on c.from_residual.result c.from_residual.ensures.1 (halts_left (next_is (some_next c.take_word.result (c.is_none.ensures ∙ ap not c.if-is_none.false) c.take_word.ensures.next)) (halts_rest (some_read c.take_word.result (c.is_none.ensures ∙ ap not c.if-is_none.false) c.take_word.ensures.some) c.in_err-name.ensures.err))

pub returns-clause-ok : goal.returns-clause-ok
returns-clause-ok c = reads_left (next_is (some_next c.take_word.result (c.is_none.ensures ∙ ap not c.if-is_none.false) c.take_word.ensures.next)) (reads_then (some_read c.take_word.result (c.is_none.ensures ∙ ap not c.if-is_none.false) c.take_word.ensures.some) c.in_ok-name.ensures.ok)
