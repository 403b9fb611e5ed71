use Rattle.dsr_parse.proofs.Grouped.{halts_behind, halts_group, reads_group}
use Rattle.dsr_parse.proofs.Passing.{halts_first, halts_left, halts_rest, halts_right, next_is, other_is, passed_on, reads_left, reads_right, reads_then}
use Rattle.std.proofs.Common.{refl, sym, ◌∙◌}
use Rattle.dsr_parse.proofs.reader.Reader.binder.Goals as goal

pub returns-in_err-name-clause-err : goal.returns-in_err-name-clause-err
returns-in_err-name-clause-err c = passed_on c.from_residual.result c.from_residual.ensures.1 (halts_left (next_is (sym c.is_name.ensures ∙ c.if-is_name.true)) c.in_err-name.ensures.err)

pub returns-then-is_name-clause-ok : goal.returns-then-is_name-clause-ok
returns-then-is_name-clause-ok c = reads_left (next_is (sym c.is_name.ensures ∙ c.if-is_name.true)) c.in_ok-name.ensures.ok

pub returns-in_err-place-clause-err : goal.returns-in_err-place-clause-err
returns-in_err-place-clause-err c = passed_on c.from_residual-in_err-place.result c.from_residual-in_err-place.ensures.1 (halts_right refl (other_is (sym c.is_name.ensures ∙ c.if-is_name.false)) (halts_first c.in_err-place.ensures.err))

pub returns-in_err-first-clause-err : goal.returns-in_err-first-clause-err
returns-in_err-first-clause-err c = passed_on c.from_residual-in_err-first.result c.from_residual-in_err-first.ensures.1 (halts_right refl (other_is (sym c.is_name.ensures ∙ c.if-is_name.false)) (halts_rest c.in_ok-place.ensures.ok (halts_group c.in_err-first.ensures.err)))

pub returns-in_err-second-clause-err : goal.returns-in_err-second-clause-err
returns-in_err-second-clause-err c = passed_on c.from_residual-in_err-second.result c.from_residual-in_err-second.ensures.1 (halts_right refl (other_is (sym c.is_name.ensures ∙ c.if-is_name.false)) (halts_rest c.in_ok-place.ensures.ok (halts_behind c.in_ok-first.ensures.ok c.in_err-second.ensures.err)))

pub returns-clause-ok : goal.returns-clause-ok
returns-clause-ok c = reads_right refl (other_is (sym c.is_name.ensures ∙ c.if-is_name.false)) (reads_then c.in_ok-place.ensures.ok (reads_group c.in_ok-first.ensures.ok c.in_ok-second.ensures.ok))
