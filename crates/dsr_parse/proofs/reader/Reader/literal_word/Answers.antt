use Rattle.std.proofs.Common.{sym}
use Rattle.std.proofs.lemmas.Result.{IfOk-weaker}
use Rattle.dsr_parse.proofs.Passing.{counted_after, counted_reads, counted_stops, err_from, expected_halts, passed_on}
use Rattle.dsr_parse.proofs.reader.Reader.literal_word.Goals as goal

pub returns-then-not-is_word-clause-err : goal.returns-then-not-is_word-clause-err
returns-then-not-is_word-clause-err c = expected_halts c.expected.ensures (sym c.if-not-is_word.ensures)

pub returns-in_err-count-clause-err : goal.returns-in_err-count-clause-err
returns-in_err-count-clause-err c = passed_on c.from_residual.result c.from_residual.ensures.1 (counted_stops c.in_err-count.ensures.past (sym c.if-not-is_word.ensures))

pub returns-clause-ok : goal.returns-clause-ok
returns-clause-ok c = IfOk-weaker c.word.result _ _ (λ p r. counted_reads c.in_ok-count.ensures.below c.in_ok-count.ensures.rest c.in_ok-count.ensures.counted (sym c.if-not-is_word.ensures) r) c.word.ensures.ok

pub returns-clause-err : goal.returns-clause-err
returns-clause-err c = err_from c.word.result (λ e h. counted_after c.in_ok-count.ensures.below c.in_ok-count.ensures.rest c.in_ok-count.ensures.counted (sym c.if-not-is_word.ensures) h) c.word.ensures.err
