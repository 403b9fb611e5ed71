use Rattle.dsr_parse.proofs.Grouped.{halts_behind, halts_group, reads_group}
use Rattle.dsr_parse.proofs.Passing.{halts_first, halts_rest, passed_on, reads_then}
use Rattle.dsr_parse.proofs.reader.Reader.pair_atom.Goals as goal

pub returns-in_err-place-clause-err : goal.returns-in_err-place-clause-err
returns-in_err-place-clause-err c = passed_on c.from_residual.result c.from_residual.ensures.1 (halts_first c.in_err-place.ensures.err)

pub returns-in_err-first-clause-err : goal.returns-in_err-first-clause-err
returns-in_err-first-clause-err c = passed_on c.from_residual-in_err-first.result c.from_residual-in_err-first.ensures.1 (halts_rest c.in_ok-place.ensures.ok (halts_group c.in_err-first.ensures.err))

pub returns-in_err-second-clause-err : goal.returns-in_err-second-clause-err
returns-in_err-second-clause-err c = passed_on c.from_residual-in_err-second.result c.from_residual-in_err-second.ensures.1 (halts_rest c.in_ok-place.ensures.ok (halts_behind c.in_ok-first.ensures.ok (halts_group c.in_err-second.ensures.err)))

pub returns-in_err-relation-clause-err : goal.returns-in_err-relation-clause-err
returns-in_err-relation-clause-err c = passed_on c.from_residual-in_err-relation.result c.from_residual-in_err-relation.ensures.1 (halts_rest c.in_ok-place.ensures.ok (halts_behind c.in_ok-first.ensures.ok (halts_behind c.in_ok-second.ensures.ok c.in_err-relation.ensures.err)))

pub returns-clause-ok : goal.returns-clause-ok
returns-clause-ok c = reads_then c.in_ok-place.ensures.ok (reads_group c.in_ok-first.ensures.ok (reads_group c.in_ok-second.ensures.ok c.in_ok-relation.ensures.ok))
