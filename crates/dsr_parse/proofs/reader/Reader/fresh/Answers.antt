use Rattle.dsr_parse.proofs.Grouped.{halts_behind, halts_group, handed, reads_group}
use Rattle.dsr_parse.proofs.PartTexts.{items_said}
use Rattle.dsr_parse.proofs.Passing.{err_from, halts_first, halts_rest, passed_on, reads_as, reads_then}
use Rattle.dsr_parse.proofs.reader.Reader.fresh.Goals as goal

pub returns-in_err-place-clause-err : goal.returns-in_err-place-clause-err
returns-in_err-place-clause-err c = passed_on c.from_residual.result c.from_residual.ensures.1 (halts_first c.in_err-place.ensures.err)

pub returns-in_err-pool-clause-err : goal.returns-in_err-pool-clause-err
returns-in_err-pool-clause-err c = passed_on c.from_residual-in_err-pool.result c.from_residual-in_err-pool.ensures.1 (halts_rest c.in_ok-place.ensures.ok (halts_first c.in_err-pool.ensures.err))

pub returns-in_err-first-clause-err : goal.returns-in_err-first-clause-err
returns-in_err-first-clause-err c = passed_on c.from_residual-in_err-first.result c.from_residual-in_err-first.ensures.1 (halts_rest c.in_ok-place.ensures.ok (halts_rest c.in_ok-pool.ensures.ok (halts_group c.in_err-first.ensures.err)))

pub returns-in_err-rest-clause-err : goal.returns-in_err-rest-clause-err
returns-in_err-rest-clause-err c = passed_on c.from_residual-in_err-rest.result c.from_residual-in_err-rest.ensures.1 (halts_rest c.in_ok-place.ensures.ok (halts_rest c.in_ok-pool.ensures.ok (halts_behind c.in_ok-first.ensures.ok (halts_first c.in_err-rest.ensures.err))))

pub returns-clause-ok : goal.returns-clause-ok
returns-clause-ok c = handed _ c.ended.result c.ended.ensures.same c.ended.ensures.ok (λ last. reads_then c.in_ok-place.ensures.ok (reads_then c.in_ok-pool.ensures.ok (reads_group c.in_ok-first.ensures.ok (reads_then (reads_as (items_said _ c.new.ensures) c.in_ok-rest.ensures.ok) last))))

pub returns-clause-err : goal.returns-clause-err
returns-clause-err c = err_from c.ended.result (λ e h. halts_rest c.in_ok-place.ensures.ok (halts_rest c.in_ok-pool.ensures.ok (halts_behind c.in_ok-first.ensures.ok (halts_rest c.in_ok-rest.ensures.ok h)))) c.ended.ensures.err
