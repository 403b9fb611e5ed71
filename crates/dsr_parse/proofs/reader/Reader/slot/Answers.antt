use Rattle.std.proofs.Common.{refl, sym}
use Rattle.dsr_parse.proofs.Passing.{passed_on, next_is, other_is, halts_left, reads_left, reads_none}
use Rattle.dsr_parse.proofs.reader.Reader.slot.Goals as goal

pub returns-then-not-is_word-clause-ok : goal.returns-then-not-is_word-clause-ok
returns-then-not-is_word-clause-ok c = reads_none refl (other_is (sym c.if-not-is_word.ensures))

pub returns-in_err-expr_behind-clause-err : goal.returns-in_err-expr_behind-clause-err
returns-in_err-expr_behind-clause-err c = passed_on c.from_residual.result c.from_residual.ensures.1 (halts_left (next_is (sym c.if-not-is_word.ensures)) c.in_err-expr_behind.ensures.err)

pub returns-clause-ok : goal.returns-clause-ok
returns-clause-ok c = reads_left (next_is (sym c.if-not-is_word.ensures)) c.in_ok-expr_behind.ensures.ok
