use Rattle.std.proofs.Common.{refl}
use Rattle.dsr_parse.proofs.Passing.{passed_on, reads_left, reads_unkept}
use Rattle.dsr_parse.proofs.Staying.{took, took_next, reads_past, halts_past}
use Rattle.dsr_parse.proofs.reader.Reader.bound.Goals as goal

pub returns-then-is_some-clause-ok : goal.returns-then-is_some-clause-ok
returns-then-is_some-clause-ok c = reads_left (took_next c.take_sign.result c.if-is_some.ensures c.take_sign.ensures.next) (took c.take_sign.result c.if-is_some.ensures c.take_sign.ensures.some)

pub returns-then-is_some-2-clause-ok : goal.returns-then-is_some-2-clause-ok
returns-then-is_some-2-clause-ok c = reads_past refl c.take_sign.result c.if-is_some.ensures c.take_sign.ensures.none c.take_sign.ensures.same (reads_left (took_next c.take_sign-2.result c.if-is_some-2.ensures c.take_sign-2.ensures.next) (took c.take_sign-2.result c.if-is_some-2.ensures c.take_sign-2.ensures.some))

pub returns-in_err-sign-clause-err : goal.returns-in_err-sign-clause-err
returns-in_err-sign-clause-err c = passed_on c.from_residual.result c.from_residual.ensures.1 (halts_past refl c.take_sign.result c.if-is_some.ensures c.take_sign.ensures.none c.take_sign.ensures.same (halts_past refl c.take_sign-2.result c.if-is_some-2.ensures c.take_sign-2.ensures.none c.take_sign-2.ensures.same c.in_err-sign.ensures.err))

pub returns-clause-ok : goal.returns-clause-ok
returns-clause-ok c = reads_past refl c.take_sign.result c.if-is_some.ensures c.take_sign.ensures.none c.take_sign.ensures.same (reads_past refl c.take_sign-2.result c.if-is_some-2.ensures c.take_sign-2.ensures.none c.take_sign-2.ensures.same (reads_unkept c.in_ok-sign.ensures.ok))
