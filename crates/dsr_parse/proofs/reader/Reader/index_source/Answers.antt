use Rattle.std.proofs.Common.{refl}
use Rattle.dsr_parse.proofs.Passing.{passed_on, next_is, other_is, halts_rest, halts_left, halts_right, reads_then, reads_left, reads_right}
use Rattle.dsr_parse.proofs.Taking.{reads_from, halts_from}
use Rattle.dsr_parse.proofs.reader.Reader.index_source.Goals as goal

pub returns-in_err-pool-clause-err : goal.returns-in_err-pool-clause-err
returns-in_err-pool-clause-err c = passed_on c.from_residual.result c.from_residual.ensures.1 (halts_left (next_is c.in-Some.ensures.next) (halts_rest c.in-Some.ensures.some c.in_err-pool.ensures.err))

pub returns-in-Some-clause-ok : goal.returns-in-Some-clause-ok
returns-in-Some-clause-ok c = reads_left (next_is c.in-Some.ensures.next) (reads_then c.in-Some.ensures.some c.in_ok-pool.ensures.ok)

pub returns-in_err-name-clause-err : goal.returns-in_err-name-clause-err
returns-in_err-name-clause-err c = passed_on c.from_residual-in_err-name.result c.from_residual-in_err-name.ensures.1 (halts_right refl (other_is c.in_default.ensures.none) (halts_from c.in_default.ensures.same c.in_err-name.ensures.err))

pub returns-clause-ok : goal.returns-clause-ok
returns-clause-ok c = reads_right refl (other_is c.in_default.ensures.none) (reads_from c.in_default.ensures.same c.in_ok-name.ensures.ok)
