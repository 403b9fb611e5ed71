use Rattle.std.proofs.Common.{refl, sym, ◌∙◌}
use Rattle.std.proofs.lemmas.Result.{IfOk-weaker}
use Rattle.dsr_parse.proofs.Passing.{err_from, next_is, other_is, halts_left, halts_right, reads_left, reads_right}
use Rattle.dsr_parse.proofs.reader.Reader.atom.Goals as goal

pub returns-then-is_word-clause-ok : goal.returns-then-is_word-clause-ok
returns-then-is_word-clause-ok c = IfOk-weaker c.count_atom.result _ _ (λ a r. reads_left (next_is (sym c.is_word.ensures ∙ c.if-is_word.true)) r) c.count_atom.ensures.ok

pub returns-then-is_word-clause-err : goal.returns-then-is_word-clause-err
returns-then-is_word-clause-err c = err_from c.count_atom.result (λ e h. halts_left (next_is (sym c.is_word.ensures ∙ c.if-is_word.true)) h) c.count_atom.ensures.err

pub returns-then-is_sign-clause-ok : goal.returns-then-is_sign-clause-ok
returns-then-is_sign-clause-ok c = IfOk-weaker c.pair_atom.result _ _ (λ a r. reads_right refl (other_is (sym c.is_word.ensures ∙ c.if-is_word.false)) (reads_left (next_is (sym c.is_sign.ensures ∙ c.if-is_sign.true)) r)) c.pair_atom.ensures.ok

pub returns-then-is_sign-clause-err : goal.returns-then-is_sign-clause-err
returns-then-is_sign-clause-err c = err_from c.pair_atom.result (λ e h. halts_right refl (other_is (sym c.is_word.ensures ∙ c.if-is_word.false)) (halts_left (next_is (sym c.is_sign.ensures ∙ c.if-is_sign.true)) h)) c.pair_atom.ensures.err

pub returns-else-is_sign-clause-ok : goal.returns-else-is_sign-clause-ok
returns-else-is_sign-clause-ok c = IfOk-weaker c.var_atom.result _ _ (λ a r. reads_right refl (other_is (sym c.is_word.ensures ∙ c.if-is_word.false)) (reads_right refl (other_is (sym c.is_sign.ensures ∙ c.if-is_sign.false)) r)) c.var_atom.ensures.ok

pub returns-else-is_sign-clause-err : goal.returns-else-is_sign-clause-err
returns-else-is_sign-clause-err c = err_from c.var_atom.result (λ e h. halts_right refl (other_is (sym c.is_word.ensures ∙ c.if-is_word.false)) (halts_right refl (other_is (sym c.is_sign.ensures ∙ c.if-is_sign.false)) h)) c.var_atom.ensures.err
