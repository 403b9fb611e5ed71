use Rattle.std.proofs.Common.{refl, sym, ◌∙◌}
use Rattle.dsr_parse.proofs.Passing.{passed_on, next_is, other_is, halts_left, halts_right}
use Rattle.dsr_parse.proofs.reader.Reader.product_sign.Goals as goal

pub returns-in_err-operator-clause-err : goal.returns-in_err-operator-clause-err
returns-in_err-operator-clause-err c = passed_on c.from_residual.result c.from_residual.ensures.1 (halts_left (next_is (sym c.is_sign.ensures ∙ c.if-is_sign.true)) c.in_err-operator.ensures.err)

pub returns-in_err-operator-2-clause-err : goal.returns-in_err-operator-2-clause-err
returns-in_err-operator-2-clause-err c = passed_on c.from_residual-in_err-operator-2.result c.from_residual-in_err-operator-2.ensures.1 (halts_right refl (other_is (sym c.is_sign.ensures ∙ c.if-is_sign.false)) c.in_err-operator-2.ensures.err)
