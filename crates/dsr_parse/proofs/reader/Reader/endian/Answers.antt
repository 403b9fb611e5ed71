use Rattle.std.proofs.Common.{refl, sym, ◌∙◌}
use Rattle.dsr_parse.proofs.Passing.{passed_on, next_is, other_is, halts_right, reads_left, reads_right, reads_unkept}
use Rattle.dsr_parse.proofs.Taking.{some_read, some_next, none_known, reads_from, halts_from}
use Rattle.dsr_parse.proofs.reader.Reader.endian.Goals as goal

pub returns-then-is_some-clause-ok : goal.returns-then-is_some-clause-ok
returns-then-is_some-clause-ok c = reads_left (next_is (some_next c.take_word.result (sym c.is_some.ensures ∙ c.if-is_some.true) c.take_word.ensures.next)) (some_read c.take_word.result (sym c.is_some.ensures ∙ c.if-is_some.true) c.take_word.ensures.some)

pub returns-in_err-word-clause-err : goal.returns-in_err-word-clause-err
returns-in_err-word-clause-err c = passed_on c.from_residual.result c.from_residual.ensures.1 (halts_right refl (other_is (none_known c.take_word.result (sym c.is_some.ensures ∙ c.if-is_some.false) c.take_word.ensures.none)) (halts_from (none_known c.take_word.result (sym c.is_some.ensures ∙ c.if-is_some.false) c.take_word.ensures.same) c.in_err-word.ensures.err))

pub returns-clause-ok : goal.returns-clause-ok
returns-clause-ok c = reads_right refl (other_is (none_known c.take_word.result (sym c.is_some.ensures ∙ c.if-is_some.false) c.take_word.ensures.none)) (reads_from (none_known c.take_word.result (sym c.is_some.ensures ∙ c.if-is_some.false) c.take_word.ensures.same) (reads_unkept c.in_ok-word.ensures.ok))
