use Rattle.std.proofs.Common.{refl, sym}
use Rattle.dsr_parse.proofs.Passing.{passed_on, halts_rest, halts_left, reads_then, reads_left}
use Rattle.dsr_parse.proofs.Staying.{took, took_next, reads_nothing}
use Rattle.dsr_parse.proofs.reader.Reader.size_part.Goals as goal

pub returns-then-is_none-clause-ok : goal.returns-then-is_none-clause-ok
returns-then-is_none-clause-ok c = reads_nothing refl c.take_sign.result (sym c.if-is_none.ensures) c.take_sign.ensures.none c.take_sign.ensures.same

pub returns-in_err-name-clause-err : goal.returns-in_err-name-clause-err
returns-in_err-name-clause-err c = passed_on c.from_residual.result c.from_residual.ensures.1 (halts_left (took_next c.take_sign.result (sym c.if-is_none.ensures) c.take_sign.ensures.next) (halts_rest (took c.take_sign.result (sym c.if-is_none.ensures) c.take_sign.ensures.some) c.in_err-name.ensures.err))

pub returns-clause-ok : goal.returns-clause-ok
returns-clause-ok c = reads_left (took_next c.take_sign.result (sym c.if-is_none.ensures) c.take_sign.ensures.next) (reads_then (took c.take_sign.result (sym c.if-is_none.ensures) c.take_sign.ensures.some) c.in_ok-name.ensures.ok)
