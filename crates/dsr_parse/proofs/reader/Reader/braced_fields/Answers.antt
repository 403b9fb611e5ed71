use Rattle.dsr_parse.proofs.Grouped.{handed}
use Rattle.dsr_parse.proofs.Passing.{err_from, halts_first, halts_rest, passed_on, reads_then, reads_unkept}
use Rattle.dsr_parse.proofs.reader.Reader.braced_fields.Goals as goal

pub returns-in_err-sign-clause-err : goal.returns-in_err-sign-clause-err
returns-in_err-sign-clause-err c = passed_on c.from_residual.result c.from_residual.ensures.1 (halts_first c.in_err-sign.ensures.err)

pub returns-in_err-fields-clause-err : goal.returns-in_err-fields-clause-err
returns-in_err-fields-clause-err c = passed_on c.from_residual-in_err-fields.result c.from_residual-in_err-fields.ensures.1 (halts_rest c.in_ok-sign.ensures.ok (halts_first c.in_err-fields.ensures.err))

pub returns-clause-ok : goal.returns-clause-ok
returns-clause-ok c = handed _ c.ended.result c.ended.ensures.same c.ended.ensures.ok (λ last. reads_then (reads_unkept c.in_ok-sign.ensures.ok) (reads_then c.in_ok-fields.ensures.ok last))

pub returns-clause-err : goal.returns-clause-err
returns-clause-err c = err_from c.ended.result (λ e h. halts_rest c.in_ok-sign.ensures.ok (halts_rest c.in_ok-fields.ensures.ok h)) c.ended.ensures.err
