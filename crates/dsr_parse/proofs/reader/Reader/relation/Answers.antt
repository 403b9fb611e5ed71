use Rattle.dsr_parse.proofs.Grouped.{halts_behind, halts_group, handed, reads_group}
use Rattle.dsr_parse.proofs.Passing.{err_from, halts_first, halts_rest, passed_on, reads_then}
use Rattle.dsr_parse.proofs.reader.Reader.relation.Goals as goal

pub returns-in_err-place-clause-err : goal.returns-in_err-place-clause-err
returns-in_err-place-clause-err c = passed_on c.from_residual.result c.from_residual.ensures.1 (halts_first c.in_err-place.ensures.err)

pub returns-in_err-name-clause-err : goal.returns-in_err-name-clause-err
returns-in_err-name-clause-err c = passed_on c.from_residual-in_err-name.result c.from_residual-in_err-name.ensures.1 (halts_rest c.in_ok-place.ensures.ok (halts_group c.in_err-name.ensures.err))

pub returns-in_err-source-clause-err : goal.returns-in_err-source-clause-err
returns-in_err-source-clause-err c = passed_on c.from_residual-in_err-source.result c.from_residual-in_err-source.ensures.1 (halts_rest c.in_ok-place.ensures.ok (halts_behind c.in_ok-name.ensures.ok (halts_group c.in_err-source.ensures.err)))

pub returns-in_err-target-clause-err : goal.returns-in_err-target-clause-err
returns-in_err-target-clause-err c = passed_on c.from_residual-in_err-target.result c.from_residual-in_err-target.ensures.1 (halts_rest c.in_ok-place.ensures.ok (halts_behind c.in_ok-name.ensures.ok (halts_behind c.in_ok-source.ensures.ok (halts_first c.in_err-target.ensures.err))))

pub returns-clause-ok : goal.returns-clause-ok
returns-clause-ok c = handed _ c.ended.result c.ended.ensures.same c.ended.ensures.ok (λ last. reads_then c.in_ok-place.ensures.ok (reads_group c.in_ok-name.ensures.ok (reads_group c.in_ok-source.ensures.ok (reads_then c.in_ok-target.ensures.ok last))))

pub returns-clause-err : goal.returns-clause-err
returns-clause-err c = err_from c.ended.result (λ e h. halts_rest c.in_ok-place.ensures.ok (halts_behind c.in_ok-name.ensures.ok (halts_behind c.in_ok-source.ensures.ok (halts_rest c.in_ok-target.ensures.ok h)))) c.ended.ensures.err
