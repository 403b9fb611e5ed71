use Rattle.dsr_parse.proofs.Passing.{halts_first, halts_left, halts_rest, passed_on, reads_left, reads_then}
use Rattle.dsr_parse.proofs.Staying.{halts_past, reads_past, took, took_next}
use Rattle.std.proofs.Common.{refl}
use Rattle.dsr_parse.proofs.reader.Reader.var_atom.Goals as goal

pub returns-in_err-var-clause-err : goal.returns-in_err-var-clause-err
returns-in_err-var-clause-err c = passed_on c.from_residual.result c.from_residual.ensures.1 (halts_first c.in_err-var.ensures.err)

pub returns-in_err-set-clause-err : goal.returns-in_err-set-clause-err
returns-in_err-set-clause-err c = passed_on c.from_residual-in_err-set.result c.from_residual-in_err-set.ensures.1 (halts_rest c.in_ok-var.ensures.ok (halts_left (took_next c.take_word.result c.if-is_some.ensures c.take_word.ensures.next) (halts_rest (took c.take_word.result c.if-is_some.ensures c.take_word.ensures.some) c.in_err-set.ensures.err)))

pub returns-then-is_some-clause-ok : goal.returns-then-is_some-clause-ok
returns-then-is_some-clause-ok c = reads_then c.in_ok-var.ensures.ok (reads_left (took_next c.take_word.result c.if-is_some.ensures c.take_word.ensures.next) (reads_then (took c.take_word.result c.if-is_some.ensures c.take_word.ensures.some) c.in_ok-set.ensures.ok))

pub returns-in_err-relation-clause-err : goal.returns-in_err-relation-clause-err
returns-in_err-relation-clause-err c = passed_on c.from_residual-in_err-relation.result c.from_residual-in_err-relation.ensures.1 (halts_rest c.in_ok-var.ensures.ok (halts_past refl c.take_word.result c.if-is_some.ensures c.take_word.ensures.none c.take_word.ensures.same c.in_err-relation.ensures.err))

pub returns-clause-ok : goal.returns-clause-ok
returns-clause-ok c = reads_then c.in_ok-var.ensures.ok (reads_past refl c.take_word.result c.if-is_some.ensures c.take_word.ensures.none c.take_word.ensures.same c.in_ok-relation.ensures.ok)
