use Rattle.dsr_parse.proofs.Grouped.{behind_is, behind_stops, handed}
use Rattle.dsr_parse.proofs.Passing.{err_from, halts_first, halts_left, halts_rest, halts_right, next_is, other_is, passed_on, reads_as, reads_left, reads_right, reads_then, reads_unkept}
use Rattle.dsr_parse.proofs.Taking.{halts_from, reads_from}
use Rattle.dsr_syntax_theory.specs.TreeTexts.{path_text}
use Rattle.std.proofs.Common.{ap, refl}
use Rattle.dsr_parse.proofs.reader.Reader.guard.Goals as goal

pub returns-in_err-sign-clause-err : goal.returns-in_err-sign-clause-err
returns-in_err-sign-clause-err c = passed_on c.from_residual.result c.from_residual.ensures.1 (halts_left (next_is c.in-Some.ensures.1.is) (halts_rest c.in-Some.ensures.0 (halts_first c.in_err-sign.ensures.err)))

pub returns-in_err-path-clause-err : goal.returns-in_err-path-clause-err
returns-in_err-path-clause-err c = passed_on c.from_residual-in_err-path.result c.from_residual-in_err-path.ensures.1 (halts_left (next_is c.in-Some.ensures.1.is) (halts_rest c.in-Some.ensures.0 (halts_rest c.in_ok-sign.ensures.ok (halts_first c.in_err-path.ensures.err))))

pub returns-in-Some-clause-ok : goal.returns-in-Some-clause-ok
returns-in-Some-clause-ok c = handed _ c.ended.result c.ended.ensures.same c.ended.ensures.ok (λ last. reads_left (next_is c.in-Some.ensures.1.is) (reads_then c.in-Some.ensures.0 (reads_then (reads_unkept c.in_ok-sign.ensures.ok) (reads_then c.in_ok-path.ensures.ok last))))

pub returns-in-Some-clause-err : goal.returns-in-Some-clause-err
returns-in-Some-clause-err c = err_from c.ended.result (λ e h. halts_left (next_is c.in-Some.ensures.1.is) (halts_rest c.in-Some.ensures.0 (halts_rest c.in_ok-sign.ensures.ok (halts_rest c.in_ok-path.ensures.ok h)))) c.ended.ensures.err

pub returns-in_err-path-2-clause-err : goal.returns-in_err-path-2-clause-err
returns-in_err-path-2-clause-err c = passed_on c.from_residual-in_err-path-2.result c.from_residual-in_err-path-2.ensures.1 (halts_right refl (other_is c.in_default.ensures.0.is) (halts_from c.in_default.ensures.1 (halts_first c.in_err-path-2.ensures.err)))

pub returns-in_err-path-3-clause-err : goal.returns-in_err-path-3-clause-err
returns-in_err-path-3-clause-err c = passed_on c.from_residual-in_err-path-3.result c.from_residual-in_err-path-3.ensures.1 (halts_right refl (other_is c.in_default.ensures.0.is) (halts_from c.in_default.ensures.1 (halts_rest c.in_ok-path-2.ensures.ok (halts_first (behind_stops _ c.compare.result c.in_err-path-3.ensures.err c.compare.ensures.err)))))

pub returns-in_err-number-clause-err : goal.returns-in_err-number-clause-err
returns-in_err-number-clause-err c = passed_on c.from_residual-in_err-number.result c.from_residual-in_err-number.ensures.1 (halts_right refl (other_is c.in_default.ensures.0.is) (halts_from c.in_default.ensures.1 (halts_rest c.in_ok-path-2.ensures.ok (halts_rest (behind_is _ c.compare.result c.in_ok-path-3.ensures.ok c.compare.ensures.ok) c.in_err-number.ensures.err))))

pub returns-clause-ok : goal.returns-clause-ok
returns-clause-ok c = reads_right refl (other_is c.in_default.ensures.0.is) (reads_from c.in_default.ensures.1 (reads_then (reads_as (ap path_text c.in_ok-path-3.ensures.ok.0) c.in_ok-path-2.ensures.ok) (reads_then (behind_is _ c.compare.result c.in_ok-path-3.ensures.ok c.compare.ensures.ok) c.in_ok-number.ensures.ok)))
