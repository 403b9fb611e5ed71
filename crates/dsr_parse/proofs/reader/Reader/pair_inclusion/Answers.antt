use Rattle.dsr_parse.proofs.Grouped.{behind_is, behind_stops}
use Rattle.dsr_parse.proofs.Passing.{halts_first, halts_rest, passed_on, reads_as, reads_then}
use Rattle.dsr_syntax_theory.specs.TreeTexts.{term_text}
use Rattle.std.proofs.Common.{ap, ◌∙◌}
use Rattle.dsr_parse.proofs.reader.Reader.pair_inclusion.Goals as goal

pub returns-in_err-place-clause-err : goal.returns-in_err-place-clause-err
returns-in_err-place-clause-err c = passed_on c.from_residual.result c.from_residual.ensures.1 (halts_first c.in_err-place.ensures.err)

pub returns-in_err-term-clause-err : goal.returns-in_err-term-clause-err
returns-in_err-term-clause-err c = passed_on c.from_residual-in_err-term.result c.from_residual-in_err-term.ensures.1 (halts_rest c.in_ok-place.ensures.ok (halts_first c.in_err-term.ensures.err))

pub returns-in_err-term-2-clause-err : goal.returns-in_err-term-2-clause-err
returns-in_err-term-2-clause-err c = passed_on c.from_residual-in_err-term-2.result c.from_residual-in_err-term-2.ensures.1 (halts_rest c.in_ok-place.ensures.ok (halts_rest c.in_ok-term.ensures.ok (halts_first c.in_err-term-2.ensures.err)))

pub returns-in_err-term-3-clause-err : goal.returns-in_err-term-3-clause-err
returns-in_err-term-3-clause-err c = passed_on c.from_residual-in_err-term-3.result c.from_residual-in_err-term-3.ensures.1 (halts_rest c.in_ok-place.ensures.ok (halts_rest c.in_ok-term.ensures.ok (halts_rest c.in_ok-term-2.ensures.ok (behind_stops _ c.pair_end.result c.in_err-term-3.ensures.err c.pair_end.ensures.err))))

pub returns-clause-ok : goal.returns-clause-ok
returns-clause-ok c = reads_then c.in_ok-place.ensures.ok (reads_then (reads_as (ap term_text (c.in_ok-term-3.ensures.ok.0 ∙ c.in_ok-term-2.ensures.same)) c.in_ok-term.ensures.ok) (reads_then c.in_ok-term-2.ensures.ok (behind_is _ c.pair_end.result c.in_ok-term-3.ensures.ok c.pair_end.ensures.ok)))
