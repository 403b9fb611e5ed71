use Rattle.dsr_parse.proofs.Passing.{passed_on, halts_first, halts_rest, reads_then, reads_unkept}
use Rattle.dsr_parse.proofs.reader.Reader.order.Goals as goal

pub returns-in_err-word-clause-err : goal.returns-in_err-word-clause-err
returns-in_err-word-clause-err c = passed_on c.from_residual.result c.from_residual.ensures.1 (halts_first c.in_err-word.ensures.err)

pub returns-in_err-order-clause-err : goal.returns-in_err-order-clause-err
returns-in_err-order-clause-err c = passed_on c.from_residual-in_err-order.result c.from_residual-in_err-order.ensures.1 (halts_rest c.in_ok-word.ensures.ok (halts_first c.in_err-order.ensures.err))

pub returns-in_err-sign-clause-err : goal.returns-in_err-sign-clause-err
returns-in_err-sign-clause-err c = passed_on c.from_residual-in_err-sign.result c.from_residual-in_err-sign.ensures.1 (halts_rest c.in_ok-word.ensures.ok (halts_rest c.in_ok-order.ensures.ok c.in_err-sign.ensures.err))

pub returns-clause-ok : goal.returns-clause-ok
returns-clause-ok c = reads_then (reads_unkept c.in_ok-word.ensures.ok) (reads_then c.in_ok-order.ensures.ok (reads_unkept c.in_ok-sign.ensures.ok))
