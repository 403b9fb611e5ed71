use Rattle.std.proofs.Common.{sym}
use Rattle.dsr_parse.proofs.Passing.{counted_after, counted_reads, counted_stops, expected_halts, reads_unkept, passed_on}
use Rattle.dsr_parse.proofs.reader.Reader.operator.Goals as goal

pub returns-then-not-is_sign-clause-err : goal.returns-then-not-is_sign-clause-err
returns-then-not-is_sign-clause-err c = expected_halts c.expected.ensures (sym c.if-not-is_sign.ensures)

pub returns-in_err-count-clause-err : goal.returns-in_err-count-clause-err
returns-in_err-count-clause-err c = passed_on c.from_residual.result c.from_residual.ensures.1 (counted_stops c.in_err-count.ensures.past (sym c.if-not-is_sign.ensures))

pub returns-in_err-sign-clause-err : goal.returns-in_err-sign-clause-err
returns-in_err-sign-clause-err c = passed_on c.from_residual-in_err-sign.result c.from_residual-in_err-sign.ensures.1 (counted_after c.in_ok-count.ensures.below c.in_ok-count.ensures.rest c.in_ok-count.ensures.counted (sym c.if-not-is_sign.ensures) c.in_err-sign.ensures.err)

pub returns-clause-ok : goal.returns-clause-ok
returns-clause-ok c = counted_reads c.in_ok-count.ensures.below c.in_ok-count.ensures.rest c.in_ok-count.ensures.counted (sym c.if-not-is_sign.ensures) (reads_unkept c.in_ok-sign.ensures.ok)
