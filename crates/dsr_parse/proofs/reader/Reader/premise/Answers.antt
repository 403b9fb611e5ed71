use Rattle.dsr_parse.proofs.Passing.{halts_first, halts_rest, halts_right, next_is, other_is, passed_on, reads_left, reads_right, reads_then}
use Rattle.dsr_parse.proofs.Taking.{halts_from, reads_from}
use Rattle.std.proofs.Common.{refl}
use Rattle.dsr_parse.proofs.reader.Reader.premise.Goals as goal

pub returns-in-Some-clause-ok : goal.returns-in-Some-clause-ok
returns-in-Some-clause-ok c = reads_left (next_is c.in-Some.ensures.next) c.in-Some.ensures.some

pub returns-in_err-name-clause-err : goal.returns-in_err-name-clause-err
returns-in_err-name-clause-err c = passed_on c.from_residual.result c.from_residual.ensures.1 (halts_right refl (other_is c.in_default.ensures.none) (halts_from c.in_default.ensures.same (halts_first c.in_err-name.ensures.err)))

pub returns-in_err-set-clause-err : goal.returns-in_err-set-clause-err
returns-in_err-set-clause-err c = passed_on c.from_residual-in_err-set.result c.from_residual-in_err-set.ensures.1 (halts_right refl (other_is c.in_default.ensures.none) (halts_from c.in_default.ensures.same (halts_rest c.in_ok-name.ensures.ok c.in_err-set.ensures.err)))

pub returns-clause-ok : goal.returns-clause-ok
returns-clause-ok c = reads_right refl (other_is c.in_default.ensures.none) (reads_from c.in_default.ensures.same (reads_then c.in_ok-name.ensures.ok c.in_ok-set.ensures.ok))
