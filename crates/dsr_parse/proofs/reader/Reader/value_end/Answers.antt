use Rattle.dsr_parse.proofs.Passing.{halts_first, halts_rest, passed_on, reads_then, reads_unkept}
use Rattle.dsr_parse.proofs.reader.Reader.value_end.Goals as goal

pub returns-in_err-sign-clause-err : goal.returns-in_err-sign-clause-err
returns-in_err-sign-clause-err c = passed_on c.from_residual.result c.from_residual.ensures.1 (halts_first c.in_err-sign.ensures.err)

pub returns-in_err-relation-clause-err : goal.returns-in_err-relation-clause-err
returns-in_err-relation-clause-err c = passed_on c.from_residual-in_err-relation.result c.from_residual-in_err-relation.ensures.1 (halts_rest c.in_ok-sign.ensures.ok (halts_first c.in_err-relation.ensures.err))

pub returns-in_err-compare-clause-err : goal.returns-in_err-compare-clause-err
returns-in_err-compare-clause-err c = passed_on c.from_residual-in_err-compare.result c.from_residual-in_err-compare.ensures.1 (halts_rest c.in_ok-sign.ensures.ok (halts_rest c.in_ok-relation.ensures.ok (halts_first c.in_err-compare.ensures.err)))

pub returns-in_err-measure-clause-err : goal.returns-in_err-measure-clause-err
returns-in_err-measure-clause-err c = passed_on c.from_residual-in_err-measure.result c.from_residual-in_err-measure.ensures.1 (halts_rest c.in_ok-sign.ensures.ok (halts_rest c.in_ok-relation.ensures.ok (halts_rest c.in_ok-compare.ensures.ok c.in_err-measure.ensures.err)))

pub returns-clause-ok : goal.returns-clause-ok
returns-clause-ok c = reads_then (reads_unkept c.in_ok-sign.ensures.ok) (reads_then c.in_ok-relation.ensures.ok (reads_then c.in_ok-compare.ensures.ok c.in_ok-measure.ensures.ok))
