use Rattle.dsr_parse.proofs.Grouped.{handed}
use Rattle.dsr_parse.proofs.Passing.{err_from, halts_first, halts_rest, passed_on, reads_then}
use Rattle.dsr_parse.proofs.reader.Reader.pool_codes.Goals as goal

pub returns-in_err-code-clause-err : goal.returns-in_err-code-clause-err
returns-in_err-code-clause-err c = passed_on c.from_residual.result c.from_residual.ensures.1 (halts_first c.in_err-code.ensures.err)

pub returns-in_err-step-clause-err : goal.returns-in_err-step-clause-err
returns-in_err-step-clause-err c = passed_on c.from_residual-in_err-step.result c.from_residual-in_err-step.ensures.1 (halts_rest c.in_ok-code.ensures.ok (halts_first c.in_err-step.ensures.err))

pub returns-in_err-none-clause-err : goal.returns-in_err-none-clause-err
returns-in_err-none-clause-err c = passed_on c.from_residual-in_err-none.result c.from_residual-in_err-none.ensures.1 (halts_rest c.in_ok-code.ensures.ok (halts_rest c.in_ok-step.ensures.ok (halts_first c.in_err-none.ensures.err)))

pub returns-clause-ok : goal.returns-clause-ok
returns-clause-ok c = handed _ c.ended.result c.ended.ensures.same c.ended.ensures.ok (λ last. reads_then c.in_ok-code.ensures.ok (reads_then c.in_ok-step.ensures.ok (reads_then c.in_ok-none.ensures.ok last)))

pub returns-clause-err : goal.returns-clause-err
returns-clause-err c = err_from c.ended.result (λ e h. halts_rest c.in_ok-code.ensures.ok (halts_rest c.in_ok-step.ensures.ok (halts_rest c.in_ok-none.ensures.ok h))) c.ended.ensures.err
