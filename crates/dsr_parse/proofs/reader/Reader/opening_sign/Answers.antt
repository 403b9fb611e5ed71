use Rattle.std.proofs.Common.{length, ap, sym}
use Rattle.std.proofs.lemmas.Result.{IfOk-weaker}
use Rattle.dsr_parse.proofs.Passing.{opening_after, opening_halts, opening_reads, err_from, expected_halts}
use Rattle.dsr_parse.proofs.reader.Reader.opening_sign.Goals as goal

pub returns-then-not-is_sign-clause-err : goal.returns-then-not-is_sign-clause-err
returns-then-not-is_sign-clause-err c = expected_halts c.expected.ensures (sym c.if-not-is_sign.ensures)

pub returns-then-depth-ge-DEPTH_LIMIT-clause-err : goal.returns-then-depth-ge-DEPTH_LIMIT-clause-err
returns-then-depth-ge-DEPTH_LIMIT-clause-err c = opening_halts c.if-depth-ge-DEPTH_LIMIT.true (ap (λ s. length s.rest) c.self.view_is) (sym c.if-not-is_sign.ensures)

pub returns-clause-ok : goal.returns-clause-ok
returns-clause-ok c = IfOk-weaker c.sign.result _ _ (λ p r. opening_reads c.if-depth-ge-DEPTH_LIMIT.false (sym c.if-not-is_sign.ensures) r) c.sign.ensures.ok

pub returns-clause-err : goal.returns-clause-err
returns-clause-err c = err_from c.sign.result (λ e h. opening_after c.if-depth-ge-DEPTH_LIMIT.false (sym c.if-not-is_sign.ensures) h) c.sign.ensures.err
