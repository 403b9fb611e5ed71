use Rattle.dsr_parse.proofs.Grouped.{both_halt, both_read}
use Rattle.dsr_parse.proofs.Passing.{halts_first, halts_rest, passed_on, reads_as, reads_then}
use Rattle.dsr_syntax_theory.specs.TreeTexts.{path_text}
use Rattle.std.proofs.Common.{ap}
use Rattle.dsr_parse.proofs.reader.Reader.pair_end.Goals as goal

pub returns-in_err-path-clause-err : goal.returns-in_err-path-clause-err
returns-in_err-path-clause-err c = passed_on c.from_residual.result c.from_residual.ensures.1 (halts_first c.in_err-path.ensures.err)

pub returns-in_err-path-2-clause-err : goal.returns-in_err-path-2-clause-err
returns-in_err-path-2-clause-err c = passed_on c.from_residual-in_err-path-2.result c.from_residual-in_err-path-2.ensures.1 (halts_rest c.in_ok-path.ensures.ok (halts_first c.in_err-path-2.ensures.err))

pub returns-clause-ok : goal.returns-clause-ok
returns-clause-ok c = both_read _ _ c.both.result c.name_behind.result c.both.ensures.ok c.name_behind.ensures.ok (λ n r. reads_then (reads_as (ap path_text c.in_ok-path-2.ensures.same) c.in_ok-path.ensures.ok) (reads_then c.in_ok-path-2.ensures.ok r))

pub returns-clause-err : goal.returns-clause-err
returns-clause-err c = both_halt _ _ c.both.result c.name_behind.result c.both.ensures.err c.name_behind.ensures.err (λ e h. halts_rest c.in_ok-path.ensures.ok (halts_rest c.in_ok-path-2.ensures.ok h))
