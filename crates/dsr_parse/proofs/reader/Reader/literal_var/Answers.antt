use Rattle.std.proofs.Common.{refl, sym, ◌∙◌}
use Rattle.dsr_parse.proofs.Passing.{passed_on, next_is, other_is, halts_left, halts_right, reads_left, reads_right}
use Rattle.dsr_parse.proofs.reader.Reader.literal_var.Goals as goal

pub returns-in_err-place-clause-err : goal.returns-in_err-place-clause-err
returns-in_err-place-clause-err c = passed_on c.from_residual.result c.from_residual.ensures.1 (halts_left (next_is (sym c.is_word.ensures ∙ c.if-is_word.true)) c.in_err-place.ensures.err)

pub returns-then-is_word-clause-ok : goal.returns-then-is_word-clause-ok
returns-then-is_word-clause-ok c = reads_left (next_is (sym c.is_word.ensures ∙ c.if-is_word.true)) c.in_ok-place.ensures.ok

pub returns-in_err-literal_name-clause-err : goal.returns-in_err-literal_name-clause-err
returns-in_err-literal_name-clause-err c = passed_on c.from_residual-in_err-literal_name.result c.from_residual-in_err-literal_name.ensures.1 (halts_right refl (other_is (sym c.is_word.ensures ∙ c.if-is_word.false)) c.in_err-literal_name.ensures.err)

pub returns-clause-ok : goal.returns-clause-ok
returns-clause-ok c = reads_right refl (other_is (sym c.is_word.ensures ∙ c.if-is_word.false)) c.in_ok-literal_name.ensures.ok
