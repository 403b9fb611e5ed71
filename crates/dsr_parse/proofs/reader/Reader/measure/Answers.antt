use Rattle.dsr_parse.proofs.Passing.{halts_first, halts_left, halts_rest, halts_right, next_is, other_is, passed_on, reads_as, reads_left, reads_right, reads_then}
use Rattle.dsr_syntax_theory.specs.TreeTexts.{word_at}
use Rattle.dsr_tree.specs.declared.tokens.Keyword.TheVariants.{Size}
use Rattle.std.proofs.Common.{ap, refl, sym, ◌∙◌}
use Rattle.dsr_parse.proofs.reader.Reader.measure.Goals as goal

pub returns-in_err-number-clause-err : goal.returns-in_err-number-clause-err
returns-in_err-number-clause-err c = passed_on c.from_residual.result c.from_residual.ensures.1 (halts_left (next_is (sym c.is_number.ensures ∙ c.if-is_number.true)) c.in_err-number.ensures.err)

pub returns-then-is_number-clause-ok : goal.returns-then-is_number-clause-ok
returns-then-is_number-clause-ok c = reads_left (next_is (sym c.is_number.ensures ∙ c.if-is_number.true)) c.in_ok-number.ensures.ok

pub returns-in_err-place-clause-err : goal.returns-in_err-place-clause-err
returns-in_err-place-clause-err c = passed_on c.from_residual-in_err-place.result c.from_residual-in_err-place.ensures.1 (halts_right refl (other_is (sym c.is_number.ensures ∙ c.if-is_number.false)) (halts_first c.in_err-place.ensures.err))

pub returns-in_err-size_behind-clause-err : goal.returns-in_err-size_behind-clause-err
returns-in_err-size_behind-clause-err c = passed_on c.from_residual-in_err-size_behind.result c.from_residual-in_err-size_behind.ensures.1 (halts_right refl (other_is (sym c.is_number.ensures ∙ c.if-is_number.false)) (halts_rest c.in_ok-place.ensures.ok c.in_err-size_behind.ensures.err))

pub returns-clause-ok : goal.returns-clause-ok
returns-clause-ok c = reads_right refl (other_is (sym c.is_number.ensures ∙ c.if-is_number.false)) (reads_then (reads_as (ap (word_at Size) c.in_ok-size_behind.ensures.place) c.in_ok-place.ensures.ok) c.in_ok-size_behind.ensures.ok)
