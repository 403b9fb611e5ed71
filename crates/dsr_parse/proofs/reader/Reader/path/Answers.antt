use Rattle.dsr_parse.proofs.Grouped.{halts_behind, halts_group, reads_group}
use Rattle.dsr_parse.proofs.Passing.{halts_first, halts_rest, passed_on, reads_then}
use Rattle.dsr_parse.proofs.reader.Reader.path.Goals as goal

pub returns-in_err-var-clause-err : goal.returns-in_err-var-clause-err
returns-in_err-var-clause-err c = passed_on c.from_residual.result c.from_residual.ensures.1 (halts_group c.in_err-var.ensures.err)

pub returns-in_err-field-clause-err : goal.returns-in_err-field-clause-err
returns-in_err-field-clause-err c = passed_on c.from_residual-in_err-field.result c.from_residual-in_err-field.ensures.1 (halts_behind c.in_ok-var.ensures.ok (halts_first c.in_err-field.ensures.err))

pub returns-in_err-index-clause-err : goal.returns-in_err-index-clause-err
returns-in_err-index-clause-err c = passed_on c.from_residual-in_err-index.result c.from_residual-in_err-index.ensures.1 (halts_behind c.in_ok-var.ensures.ok (halts_rest c.in_ok-field.ensures.ok c.in_err-index.ensures.err))

pub returns-clause-ok : goal.returns-clause-ok
returns-clause-ok c = reads_group c.in_ok-var.ensures.ok (reads_then c.in_ok-field.ensures.ok c.in_ok-index.ensures.ok)
