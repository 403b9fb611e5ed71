use Rattle.dsr_parse.proofs.Grouped.{handed}
use Rattle.dsr_parse.proofs.Passing.{err_from, expression_stops, expression_whole, halts_first, halts_rest, passed_on, reads_then, reads_unkept}
use Rattle.dsr_parse.proofs.reader.Reader.brackets.Goals as goal

pub returns-in_err-starting_sign-clause-err : goal.returns-in_err-starting_sign-clause-err
returns-in_err-starting_sign-clause-err c = passed_on c.from_residual.result c.from_residual.ensures.1 (halts_first (halts_first c.in_err-starting_sign.ensures.err))

pub returns-in_err-length-clause-err : goal.returns-in_err-length-clause-err
returns-in_err-length-clause-err c = passed_on c.from_residual-in_err-length.result c.from_residual-in_err-length.ensures.1 (halts_first (halts_rest c.in_ok-starting_sign.ensures.ok (expression_stops c.in_err-length.ensures.err)))

pub returns-clause-ok : goal.returns-clause-ok
returns-clause-ok c = handed _ c.ended.result c.ended.ensures.same c.ended.ensures.ok (λ last. reads_then (reads_then (reads_unkept c.in_ok-starting_sign.ensures.ok) (expression_whole c.in_ok-length.ensures.ok)) last)

pub returns-clause-err : goal.returns-clause-err
returns-clause-err c = err_from c.ended.result (λ e h. halts_rest (reads_then c.in_ok-starting_sign.ensures.ok (expression_whole c.in_ok-length.ensures.ok)) h) c.ended.ensures.err
