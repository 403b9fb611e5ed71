use Rattle.std.proofs.Common.{refl, sym, ◌∙◌}
use Rattle.std.proofs.lemmas.Result.{IfOk-weaker}
use Rattle.dsr_parse.proofs.Passing.{passed_on, next_is, other_is, halts_left, halts_right, reads_left, reads_right, err_from}
use Rattle.dsr_parse.proofs.reader.Reader.field.Goals as goal

pub returns-in_err-named_field-clause-err : goal.returns-in_err-named_field-clause-err
returns-in_err-named_field-clause-err c = passed_on c.from_residual.result c.from_residual.ensures.1 (halts_right refl (other_is (sym c.is_word.ensures ∙ c.if-is_word.false)) c.in_err-named_field.ensures.err)

pub returns-then-is_word-clause-ok : goal.returns-then-is_word-clause-ok
returns-then-is_word-clause-ok c = IfOk-weaker c.skip.result _ _ (λ f r. reads_left (next_is (sym c.is_word.ensures ∙ c.if-is_word.true)) r) c.skip.ensures.ok

pub returns-then-is_word-clause-err : goal.returns-then-is_word-clause-err
returns-then-is_word-clause-err c = err_from c.skip.result (λ e h. halts_left (next_is (sym c.is_word.ensures ∙ c.if-is_word.true)) h) c.skip.ensures.err

pub returns-in_ok-named_field-clause-ok : goal.returns-in_ok-named_field-clause-ok
returns-in_ok-named_field-clause-ok c = reads_right refl (other_is (sym c.is_word.ensures ∙ c.if-is_word.false)) c.in_ok-named_field.ensures.ok
