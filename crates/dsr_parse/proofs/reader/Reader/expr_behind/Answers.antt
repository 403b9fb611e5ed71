use Rattle.std.proofs.lemmas.Result.{IfOk-weaker}
use Rattle.dsr_parse.proofs.Passing.{passed_on, halts_first, halts_rest, expression_stops, reads_then, expression_whole, reads_unkept, err_from}
use Rattle.dsr_parse.proofs.reader.Reader.expr_behind.Goals as goal

pub returns-in_err-starting_word-clause-err : goal.returns-in_err-starting_word-clause-err
returns-in_err-starting_word-clause-err c = passed_on c.from_residual.result c.from_residual.ensures.1 (halts_first c.in_err-starting_word.ensures.err)

pub returns-clause-ok : goal.returns-clause-ok
returns-clause-ok c = IfOk-weaker c.expr.result _ _ (λ e r. reads_then (reads_unkept c.in_ok-starting_word.ensures.ok) (expression_whole r)) c.expr.ensures.ok

pub returns-clause-err : goal.returns-clause-err
returns-clause-err c = err_from c.expr.result (λ e h. halts_rest c.in_ok-starting_word.ensures.ok (expression_stops h)) c.expr.ensures.err
