use Rattle.std.proofs.Common.{not, refl, sym, ap, ◌∙◌}
use Rattle.dsr_parse.proofs.Passing.{passed_on, next_is, other_is, halts_first, halts_rest, halts_left, halts_right, reads_then, reads_left, reads_right, next_left, next_right, next_neither}
use Rattle.dsr_parse.proofs.Taking.{some_read, some_next, none_known, reads_from, halts_from, other_from, next_from, reads_nothing}
use Rattle.dsr_parse.proofs.reader.Reader.member_part.Goals as goal

pub returns-in_err-field-clause-err : goal.returns-in_err-field-clause-err
returns-in_err-field-clause-err c = passed_on c.from_residual.result c.from_residual.ensures.1 (halts_left (next_left (next_is (some_next c.take_sign.result (sym c.is_some.ensures ∙ c.if-is_some.true) c.take_sign.ensures.next))) (halts_left (next_is (some_next c.take_sign.result (sym c.is_some.ensures ∙ c.if-is_some.true) c.take_sign.ensures.next)) (halts_rest (some_read c.take_sign.result (sym c.is_some.ensures ∙ c.if-is_some.true) c.take_sign.ensures.some) (halts_first c.in_err-field.ensures.err))))

pub returns-in_err-index-clause-err : goal.returns-in_err-index-clause-err
returns-in_err-index-clause-err c = passed_on c.from_residual-in_err-index.result c.from_residual-in_err-index.ensures.1 (halts_left (next_left (next_is (some_next c.take_sign.result (sym c.is_some.ensures ∙ c.if-is_some.true) c.take_sign.ensures.next))) (halts_left (next_is (some_next c.take_sign.result (sym c.is_some.ensures ∙ c.if-is_some.true) c.take_sign.ensures.next)) (halts_rest (some_read c.take_sign.result (sym c.is_some.ensures ∙ c.if-is_some.true) c.take_sign.ensures.some) (halts_rest c.in_ok-field.ensures.ok c.in_err-index.ensures.err))))

pub returns-then-is_some-clause-ok : goal.returns-then-is_some-clause-ok
returns-then-is_some-clause-ok c = reads_left (next_left (next_is (some_next c.take_sign.result (sym c.is_some.ensures ∙ c.if-is_some.true) c.take_sign.ensures.next))) (reads_left (next_is (some_next c.take_sign.result (sym c.is_some.ensures ∙ c.if-is_some.true) c.take_sign.ensures.next)) (reads_then (some_read c.take_sign.result (sym c.is_some.ensures ∙ c.if-is_some.true) c.take_sign.ensures.some) (reads_then c.in_ok-field.ensures.ok c.in_ok-index.ensures.ok)))

pub returns-then-is_none-clause-ok : goal.returns-then-is_none-clause-ok
returns-then-is_none-clause-ok c = reads_nothing refl ((none_known c.take_sign-2.result (c.is_none.ensures ∙ ap not c.if-is_none.true) c.take_sign-2.ensures.same) ∙ (none_known c.take_sign.result (sym c.is_some.ensures ∙ c.if-is_some.false) c.take_sign.ensures.same)) (next_neither (other_is (none_known c.take_sign.result (sym c.is_some.ensures ∙ c.if-is_some.false) c.take_sign.ensures.none)) (other_from (none_known c.take_sign.result (sym c.is_some.ensures ∙ c.if-is_some.false) c.take_sign.ensures.same) (other_is (none_known c.take_sign-2.result (c.is_none.ensures ∙ ap not c.if-is_none.true) c.take_sign-2.ensures.none))))

pub returns-in_err-name-clause-err : goal.returns-in_err-name-clause-err
returns-in_err-name-clause-err c = passed_on c.from_residual-in_err-name.result c.from_residual-in_err-name.ensures.1 (halts_left (next_right (next_from (none_known c.take_sign.result (sym c.is_some.ensures ∙ c.if-is_some.false) c.take_sign.ensures.same) (next_is (some_next c.take_sign-2.result (c.is_none.ensures ∙ ap not c.if-is_none.false) c.take_sign-2.ensures.next)))) (halts_right refl (other_is (none_known c.take_sign.result (sym c.is_some.ensures ∙ c.if-is_some.false) c.take_sign.ensures.none)) (halts_from (none_known c.take_sign.result (sym c.is_some.ensures ∙ c.if-is_some.false) c.take_sign.ensures.same) (halts_rest (some_read c.take_sign-2.result (c.is_none.ensures ∙ ap not c.if-is_none.false) c.take_sign-2.ensures.some) c.in_err-name.ensures.err))))

pub returns-clause-ok : goal.returns-clause-ok
returns-clause-ok c = reads_left (next_right (next_from (none_known c.take_sign.result (sym c.is_some.ensures ∙ c.if-is_some.false) c.take_sign.ensures.same) (next_is (some_next c.take_sign-2.result (c.is_none.ensures ∙ ap not c.if-is_none.false) c.take_sign-2.ensures.next)))) (reads_right refl (other_is (none_known c.take_sign.result (sym c.is_some.ensures ∙ c.if-is_some.false) c.take_sign.ensures.none)) (reads_from (none_known c.take_sign.result (sym c.is_some.ensures ∙ c.if-is_some.false) c.take_sign.ensures.same) (reads_then (some_read c.take_sign-2.result (c.is_none.ensures ∙ ap not c.if-is_none.false) c.take_sign-2.ensures.some) c.in_ok-name.ensures.ok)))
