use Rattle.dsr_parse.proofs.Grouped.{behind_is, behind_stops, handed}
use Rattle.dsr_parse.proofs.Passing.{err_from, formula_stops, formula_whole, halts_first, halts_rest, passed_on, reads_as, reads_then}
use Rattle.dsr_syntax_theory.specs.TreeTexts.{maybe_text, quantifier_text}
use Rattle.std.proofs.Common.{ap}
use Rattle.dsr_parse.proofs.reader.Reader.constraint_end.Goals as goal

pub returns-in_err-quantifier-clause-err : goal.returns-in_err-quantifier-clause-err
returns-in_err-quantifier-clause-err c = passed_on c.from_residual.result c.from_residual.ensures.1 (halts_first c.in_err-quantifier.ensures.err)

pub returns-in_err-end-clause-err : goal.returns-in_err-end-clause-err
returns-in_err-end-clause-err c = passed_on c.from_residual-in_err-end.result c.from_residual-in_err-end.ensures.1 (halts_rest c.in_ok-quantifier.ensures.ok (halts_first (formula_stops (behind_stops _ c.formula.result c.in_err-end.ensures.err c.formula.ensures.err))))

pub returns-clause-ok : goal.returns-clause-ok
returns-clause-ok c = handed _ c.ended.result c.ended.ensures.same c.ended.ensures.ok (λ last. reads_then (reads_as (ap (maybe_text quantifier_text) c.in_ok-end.ensures.ok.0) c.in_ok-quantifier.ensures.ok) (reads_then (formula_whole (behind_is _ c.formula.result c.in_ok-end.ensures.ok c.formula.ensures.ok)) last))

pub returns-clause-err : goal.returns-clause-err
returns-clause-err c = err_from c.ended.result (λ e h. halts_rest c.in_ok-quantifier.ensures.ok (halts_rest (formula_whole (behind_is _ c.formula.result c.in_ok-end.ensures.ok c.formula.ensures.ok)) h)) c.ended.ensures.err
