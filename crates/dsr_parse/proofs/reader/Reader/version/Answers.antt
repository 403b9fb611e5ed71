use Rattle.dsr_parse.proofs.Passing.{passed_on, halts_first, halts_rest, reads_then, reads_unkept}
use Rattle.dsr_parse.proofs.reader.Reader.version.Goals as goal

pub returns-in_err-place-clause-err : goal.returns-in_err-place-clause-err
returns-in_err-place-clause-err c = passed_on c.from_residual.result c.from_residual.ensures.1 (halts_first c.in_err-place.ensures.err)

pub returns-in_err-number-clause-err : goal.returns-in_err-number-clause-err
returns-in_err-number-clause-err c = passed_on c.from_residual-in_err-number.result c.from_residual-in_err-number.ensures.1 (halts_rest c.in_ok-place.ensures.ok (halts_first c.in_err-number.ensures.err))

pub returns-in_err-sign-clause-err : goal.returns-in_err-sign-clause-err
returns-in_err-sign-clause-err c = passed_on c.from_residual-in_err-sign.result c.from_residual-in_err-sign.ensures.1 (halts_rest c.in_ok-place.ensures.ok (halts_rest c.in_ok-number.ensures.ok c.in_err-sign.ensures.err))

pub returns-clause-ok : goal.returns-clause-ok
returns-clause-ok c = reads_then c.in_ok-place.ensures.ok (reads_then c.in_ok-number.ensures.ok (reads_unkept c.in_ok-sign.ensures.ok))
