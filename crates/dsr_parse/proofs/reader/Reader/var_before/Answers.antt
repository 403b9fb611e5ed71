use Rattle.dsr_parse.proofs.Grouped.{handed}
use Rattle.dsr_parse.proofs.Passing.{err_from, halts_first, halts_rest, passed_on, reads_then}
use Rattle.dsr_parse.proofs.reader.Reader.var_before.Goals as goal

pub returns-in_err-var-clause-err : goal.returns-in_err-var-clause-err
returns-in_err-var-clause-err c = passed_on c.from_residual.result c.from_residual.ensures.1 (halts_first c.in_err-var.ensures.err)

pub returns-clause-ok : goal.returns-clause-ok
returns-clause-ok c = handed _ c.ended.result c.ended.ensures.same c.ended.ensures.ok (λ last. reads_then c.in_ok-var.ensures.ok last)

pub returns-clause-err : goal.returns-clause-err
returns-clause-err c = err_from c.ended.result (λ e h. halts_rest c.in_ok-var.ensures.ok h) c.ended.ensures.err
