use Rattle.dsr_parse.proofs.Grouped.{behind_is, behind_stops}
use Rattle.dsr_parse.proofs.Passing.{halts_first, halts_rest, passed_on, reads_as, reads_then}
use Rattle.dsr_syntax_theory.specs.TreeTexts.{premise_text}
use Rattle.std.proofs.Common.{ap}
use Rattle.dsr_parse.proofs.reader.Reader.rule.Goals as goal

pub returns-in_err-place-clause-err : goal.returns-in_err-place-clause-err
returns-in_err-place-clause-err c = passed_on c.from_residual.result c.from_residual.ensures.1 (halts_first c.in_err-place.ensures.err)

pub returns-in_err-premise-clause-err : goal.returns-in_err-premise-clause-err
returns-in_err-premise-clause-err c = passed_on c.from_residual-in_err-premise.result c.from_residual-in_err-premise.ensures.1 (halts_rest c.in_ok-place.ensures.ok (halts_first c.in_err-premise.ensures.err))

pub returns-in_err-premise-2-clause-err : goal.returns-in_err-premise-2-clause-err
returns-in_err-premise-2-clause-err c = passed_on c.from_residual-in_err-premise-2.result c.from_residual-in_err-premise-2.ensures.1 (halts_rest c.in_ok-place.ensures.ok (halts_rest c.in_ok-premise.ensures.ok (halts_first (behind_stops _ c.span.result c.in_err-premise-2.ensures.err c.span.ensures.err))))

pub returns-in_err-guards-clause-err : goal.returns-in_err-guards-clause-err
returns-in_err-guards-clause-err c = passed_on c.from_residual-in_err-guards.result c.from_residual-in_err-guards.ensures.1 (halts_rest c.in_ok-place.ensures.ok (halts_rest c.in_ok-premise.ensures.ok (halts_rest (behind_is _ c.span.result c.in_ok-premise-2.ensures.ok c.span.ensures.ok) c.in_err-guards.ensures.err)))

pub returns-clause-ok : goal.returns-clause-ok
returns-clause-ok c = reads_then c.in_ok-place.ensures.ok (reads_then (reads_as (ap premise_text c.in_ok-premise-2.ensures.ok.0) c.in_ok-premise.ensures.ok) (reads_then (behind_is _ c.span.result c.in_ok-premise-2.ensures.ok c.span.ensures.ok) c.in_ok-guards.ensures.ok))
