use Rattle.std.proofs.Common.{refl, sym, ◌∙◌}
use Rattle.std.proofs.lemmas.Result.{IfOk-weaker}
use Rattle.dsr_parse.proofs.Passing.{next_is, other_is, halts_left, halts_right, reads_left, reads_right, err_from}
use Rattle.dsr_parse.proofs.reader.Reader.inclusion.Goals as goal

pub returns-then-is_sign-clause-err : goal.returns-then-is_sign-clause-err
returns-then-is_sign-clause-err c = err_from c.pair_inclusion.result (λ e h. halts_left (next_is (sym c.is_sign.ensures ∙ c.if-is_sign.true)) h) c.pair_inclusion.ensures.err

pub returns-else-is_sign-clause-err : goal.returns-else-is_sign-clause-err
returns-else-is_sign-clause-err c = err_from c.member_inclusion.result (λ e h. halts_right refl (other_is (sym c.is_sign.ensures ∙ c.if-is_sign.false)) h) c.member_inclusion.ensures.err

pub returns-then-is_sign-clause-ok : goal.returns-then-is_sign-clause-ok
returns-then-is_sign-clause-ok c = IfOk-weaker c.pair_inclusion.result _ _ (λ i r. reads_left (next_is (sym c.is_sign.ensures ∙ c.if-is_sign.true)) r) c.pair_inclusion.ensures.ok

pub returns-else-is_sign-clause-ok : goal.returns-else-is_sign-clause-ok
returns-else-is_sign-clause-ok c = IfOk-weaker c.member_inclusion.result _ _ (λ i r. reads_right refl (other_is (sym c.is_sign.ensures ∙ c.if-is_sign.false)) r) c.member_inclusion.ensures.ok
