use Rattle.std.proofs.Common.{refl, ◌∙◌}
use Rattle.dsr_syntax_theory.specs.TreeTexts.{test_text}
use Rattle.dsr_parse.proofs.Passing.{next_is, other_is, reads_left, reads_right, next_left, next_right, next_neither}
use Rattle.dsr_parse.proofs.Taking.{found_none, reads_from, other_from, next_from}
use Rattle.dsr_parse.proofs.reader.Reader.ref_test.Goals as goal

pub returns-in-Some : goal.returns-in-Some
returns-in-Some c = (reads_left (next_is c.in-Some.ensures.next) c.in-Some.ensures.some, next_left (next_is c.in-Some.ensures.next))

pub returns-in-Some-take_word : goal.returns-in-Some-take_word
returns-in-Some-take_word c = (reads_right refl (other_is c.in_default.ensures.none) (reads_from c.in_default.ensures.same (reads_left (next_is c.in-Some-take_word.ensures.next) c.in-Some-take_word.ensures.some)), next_right (next_from c.in_default.ensures.same (next_left (next_is c.in-Some-take_word.ensures.next))))

pub returns-in-Some-take_word-2 : goal.returns-in-Some-take_word-2
returns-in-Some-take_word-2 c = (reads_right refl (other_is c.in_default.ensures.none) (reads_from c.in_default.ensures.same (reads_right refl (other_is c.in_default-take_word.ensures.none) (reads_from c.in_default-take_word.ensures.same (reads_left (next_is c.in-Some-take_word-2.ensures.next) c.in-Some-take_word-2.ensures.some)))), next_right (next_from c.in_default.ensures.same (next_right (next_from c.in_default-take_word.ensures.same (next_left (next_is c.in-Some-take_word-2.ensures.next))))))

pub returns : goal.returns
returns c = (reads_right refl (other_is c.in_default.ensures.none) (reads_from c.in_default.ensures.same (reads_right refl (other_is c.in_default-take_word.ensures.none) (reads_from c.in_default-take_word.ensures.same (reads_right refl (other_is c.in_default-take_word-2.ensures.none) (reads_from c.in_default-take_word-2.ensures.same c.in_ok-place.ensures.some))))), next_right (next_from c.in_default.ensures.same (next_right (next_from c.in_default-take_word.ensures.same (next_right (next_from c.in_default-take_word-2.ensures.same (next_is c.in_ok-place.ensures.next)))))))

pub returns-in_err-place : goal.returns-in_err-place
returns-in_err-place c = found_none test_text c.from_residual.ensures (next_neither (other_is c.in_default.ensures.none) (other_from c.in_default.ensures.same (next_neither (other_is c.in_default-take_word.ensures.none) (other_from c.in_default-take_word.ensures.same (next_neither (other_is c.in_default-take_word-2.ensures.none) (other_from c.in_default-take_word-2.ensures.same (other_is c.in_err-place.ensures.none))))))) (c.in_err-place.ensures.same ∙ c.in_default-take_word-2.ensures.same ∙ c.in_default-take_word.ensures.same ∙ c.in_default.ensures.same)
