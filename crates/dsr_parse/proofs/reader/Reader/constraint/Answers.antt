use Rattle.dsr_parse.proofs.Passing.{passed_on, halts_first, halts_rest, reads_then, reads_unkept}
use Rattle.dsr_parse.proofs.reader.Reader.constraint.Goals as goal

pub returns-in_err-place-clause-err : goal.returns-in_err-place-clause-err
returns-in_err-place-clause-err c = passed_on c.from_residual.result c.from_residual.ensures.1 (halts_first c.in_err-place.ensures.err)

pub returns-in_err-name-clause-err : goal.returns-in_err-name-clause-err
returns-in_err-name-clause-err c = passed_on c.from_residual-in_err-name.result c.from_residual-in_err-name.ensures.1 (halts_rest c.in_ok-place.ensures.ok (halts_first c.in_err-name.ensures.err))

pub returns-in_err-starting_sign-clause-err : goal.returns-in_err-starting_sign-clause-err
returns-in_err-starting_sign-clause-err c = passed_on c.from_residual-in_err-starting_sign.result c.from_residual-in_err-starting_sign.ensures.1 (halts_rest c.in_ok-place.ensures.ok (halts_rest c.in_ok-name.ensures.ok (halts_first c.in_err-starting_sign.ensures.err)))

pub returns-in_err-quantifier-clause-err : goal.returns-in_err-quantifier-clause-err
returns-in_err-quantifier-clause-err c = passed_on c.from_residual-in_err-quantifier.result c.from_residual-in_err-quantifier.ensures.1 (halts_rest c.in_ok-place.ensures.ok (halts_rest c.in_ok-name.ensures.ok (halts_rest c.in_ok-starting_sign.ensures.ok c.in_err-quantifier.ensures.err)))

pub returns-clause-ok : goal.returns-clause-ok
returns-clause-ok c = reads_then c.in_ok-place.ensures.ok (reads_then c.in_ok-name.ensures.ok (reads_then (reads_unkept c.in_ok-starting_sign.ensures.ok) c.in_ok-quantifier.ensures.ok))
