use Rattle.std.proofs.Common.{refl}
use Rattle.dsr_parse.proofs.Passing.{passed_on, next_is, other_is, halts_first, halts_rest, halts_right, reads_then, reads_left, reads_right}
use Rattle.dsr_parse.proofs.Taking.{halts_from, reads_from}
use Rattle.dsr_parse.proofs.reader.Reader.width.Goals as goal

pub returns-in-Some-clause-ok : goal.returns-in-Some-clause-ok
returns-in-Some-clause-ok c = reads_left (next_is c.in-Some.ensures.next) c.in-Some.ensures.some

pub returns-in-Some-take_word-clause-ok : goal.returns-in-Some-take_word-clause-ok
returns-in-Some-take_word-clause-ok c = reads_right refl (other_is c.in_default.ensures.none) (reads_from c.in_default.ensures.same (reads_left (next_is c.in-Some-take_word.ensures.next) c.in-Some-take_word.ensures.some))

pub returns-in-Some-take_word-2-clause-ok : goal.returns-in-Some-take_word-2-clause-ok
returns-in-Some-take_word-2-clause-ok c = reads_right refl (other_is c.in_default.ensures.none) (reads_from c.in_default.ensures.same (reads_right refl (other_is c.in_default-take_word.ensures.none) (reads_from c.in_default-take_word.ensures.same (reads_left (next_is c.in-Some-take_word-2.ensures.next) c.in-Some-take_word-2.ensures.some))))

pub returns-in-Some-take_word-3-clause-ok : goal.returns-in-Some-take_word-3-clause-ok
returns-in-Some-take_word-3-clause-ok c = reads_right refl (other_is c.in_default.ensures.none) (reads_from c.in_default.ensures.same (reads_right refl (other_is c.in_default-take_word.ensures.none) (reads_from c.in_default-take_word.ensures.same (reads_right refl (other_is c.in_default-take_word-2.ensures.none) (reads_from c.in_default-take_word-2.ensures.same (reads_left (next_is c.in-Some-take_word-3.ensures.next) c.in-Some-take_word-3.ensures.some))))))

pub returns-in_err-place-clause-err : goal.returns-in_err-place-clause-err
returns-in_err-place-clause-err c = passed_on c.from_residual.result c.from_residual.ensures.1 (halts_right refl (other_is c.in_default.ensures.none) (halts_from c.in_default.ensures.same (halts_right refl (other_is c.in_default-take_word.ensures.none) (halts_from c.in_default-take_word.ensures.same (halts_right refl (other_is c.in_default-take_word-2.ensures.none) (halts_from c.in_default-take_word-2.ensures.same (halts_right refl (other_is c.in_default-take_word-3.ensures.none) (halts_from c.in_default-take_word-3.ensures.same (halts_first c.in_err-place.ensures.err)))))))))

pub returns-in_err-number-clause-err : goal.returns-in_err-number-clause-err
returns-in_err-number-clause-err c = passed_on c.from_residual-in_err-number.result c.from_residual-in_err-number.ensures.1 (halts_right refl (other_is c.in_default.ensures.none) (halts_from c.in_default.ensures.same (halts_right refl (other_is c.in_default-take_word.ensures.none) (halts_from c.in_default-take_word.ensures.same (halts_right refl (other_is c.in_default-take_word-2.ensures.none) (halts_from c.in_default-take_word-2.ensures.same (halts_right refl (other_is c.in_default-take_word-3.ensures.none) (halts_from c.in_default-take_word-3.ensures.same (halts_rest c.in_ok-place.ensures.ok c.in_err-number.ensures.err)))))))))

pub returns-clause-ok : goal.returns-clause-ok
returns-clause-ok c = reads_right refl (other_is c.in_default.ensures.none) (reads_from c.in_default.ensures.same (reads_right refl (other_is c.in_default-take_word.ensures.none) (reads_from c.in_default-take_word.ensures.same (reads_right refl (other_is c.in_default-take_word-2.ensures.none) (reads_from c.in_default-take_word-2.ensures.same (reads_right refl (other_is c.in_default-take_word-3.ensures.none) (reads_from c.in_default-take_word-3.ensures.same (reads_then c.in_ok-place.ensures.ok c.in_ok-number.ensures.ok))))))))
