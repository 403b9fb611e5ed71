use Rattle.dsr_parse.proofs.Grouped.{behind_is, behind_stops}
use Rattle.dsr_parse.proofs.Passing.{halts_first, halts_left, halts_rest, next_is, other_is, passed_on, reads_as, reads_left, reads_then}
use Rattle.dsr_parse.proofs.Taking.{none_known, reads_nothing, some_next, some_read, turns_as}
use Rattle.dsr_syntax_theory.specs.TreeTexts.{guard_text, more_guard_text}
use Rattle.std.proofs.Common.{ap, not, refl, ◌∙◌}
use Rattle.dsr_parse.proofs.reader.Reader.guards.Goals as goal

pub returns-then-is_none-clause-ok : goal.returns-then-is_none-clause-ok
returns-then-is_none-clause-ok c = reads_nothing refl (none_known c.take_word.result (c.is_none.ensures ∙ ap not c.if-is_none.true) c.take_word.ensures.same) (other_is (none_known c.take_word.result (c.is_none.ensures ∙ ap not c.if-is_none.true) c.take_word.ensures.none))

pub returns-in_err-first-clause-err : goal.returns-in_err-first-clause-err
returns-in_err-first-clause-err c = passed_on c.from_residual.result c.from_residual.ensures.1 (halts_left (next_is (some_next c.take_word.result (c.is_none.ensures ∙ ap not c.if-is_none.false) c.take_word.ensures.next)) (halts_rest (some_read c.take_word.result (c.is_none.ensures ∙ ap not c.if-is_none.false) c.take_word.ensures.some) (halts_first c.in_err-first.ensures.err)))

pub returns-in_err-first-2-clause-err : goal.returns-in_err-first-2-clause-err
returns-in_err-first-2-clause-err c = passed_on c.from_residual-in_err-first-2.result c.from_residual-in_err-first-2.ensures.1 (halts_left (next_is (some_next c.take_word.result (c.is_none.ensures ∙ ap not c.if-is_none.false) c.take_word.ensures.next)) (halts_rest (some_read c.take_word.result (c.is_none.ensures ∙ ap not c.if-is_none.false) c.take_word.ensures.some) (halts_rest c.in_ok-first.ensures.ok (behind_stops _ c.more_guards.result c.in_err-first-2.ensures.err c.more_guards.ensures.err))))

pub returns-clause-ok : goal.returns-clause-ok
returns-clause-ok c = reads_left (next_is (some_next c.take_word.result (c.is_none.ensures ∙ ap not c.if-is_none.false) c.take_word.ensures.next)) (reads_then (some_read c.take_word.result (c.is_none.ensures ∙ ap not c.if-is_none.false) c.take_word.ensures.some) (reads_then (reads_as (ap guard_text c.in_ok-first-2.ensures.ok.0) c.in_ok-first.ensures.ok) (turns_as more_guard_text c.new.ensures (behind_is _ c.more_guards.result c.in_ok-first-2.ensures.ok c.more_guards.ensures.ok))))
