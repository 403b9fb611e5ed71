use Rattle.dsr_parse.proofs.Passing.{err_from, halts_first, halts_rest, passed_on, reads_then, reads_unkept}
use Rattle.std.proofs.lemmas.Result.{IfOk-weaker}
use Rattle.dsr_parse.proofs.reader.Reader.name_behind.Goals as goal

pub returns-in_err-word-clause-err : goal.returns-in_err-word-clause-err
returns-in_err-word-clause-err c = passed_on c.from_residual.result c.from_residual.ensures.1 (halts_first c.in_err-word.ensures.err)

pub returns-clause-ok : goal.returns-clause-ok
returns-clause-ok c = IfOk-weaker c.name.result _ _ (λ n r. reads_then (reads_unkept c.in_ok-word.ensures.ok) r) c.name.ensures.ok

pub returns-clause-err : goal.returns-clause-err
returns-clause-err c = err_from c.name.result (λ e h. halts_rest c.in_ok-word.ensures.ok h) c.name.ensures.err
