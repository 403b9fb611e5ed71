use Rattle.dsr_parse.proofs.Grouped.{both_halt, both_read}
use Rattle.dsr_parse.proofs.Passing.{halts_first, halts_rest, passed_on, reads_then}
use Rattle.dsr_parse.proofs.reader.Reader.rule_end.Goals as goal

pub returns-in_err-guards-clause-err : goal.returns-in_err-guards-clause-err
returns-in_err-guards-clause-err c = passed_on c.from_residual.result c.from_residual.ensures.1 (halts_first c.in_err-guards.ensures.err)

pub returns-clause-ok : goal.returns-clause-ok
returns-clause-ok c = both_read _ _ c.both.result c.conclusion.result c.both.ensures.ok c.conclusion.ensures.ok (λ i r. reads_then c.in_ok-guards.ensures.ok r)

pub returns-clause-err : goal.returns-clause-err
returns-clause-err c = both_halt _ _ c.both.result c.conclusion.result c.both.ensures.err c.conclusion.ensures.err (λ e h. halts_rest c.in_ok-guards.ensures.ok h)
