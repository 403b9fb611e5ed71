use Rattle.dsr_parse.proofs.Grouped.{behind_is, behind_stops}
use Rattle.dsr_parse.proofs.PartTexts.{slot_said}
use Rattle.dsr_parse.proofs.Passing.{halts_first, halts_rest, passed_on, reads_as, reads_then}
use Rattle.dsr_parse.specs.Reading.{said_slot}
use Rattle.dsr_syntax_theory.specs.TreeTexts.{maybe_text}
use Rattle.std.proofs.Common.{ap, ◌∙◌}
use Rattle.dsr_parse.proofs.reader.Reader.pool_end.Goals as goal

pub returns-in_err-slot-clause-err : goal.returns-in_err-slot-clause-err
returns-in_err-slot-clause-err c = passed_on c.from_residual.result c.from_residual.ensures.1 (halts_first c.in_err-slot.ensures.err)

pub returns-in_err-slot-2-clause-err : goal.returns-in_err-slot-2-clause-err
returns-in_err-slot-2-clause-err c = passed_on c.from_residual-in_err-slot-2.result c.from_residual-in_err-slot-2.ensures.1 (halts_rest c.in_ok-slot.ensures.ok (halts_first (behind_stops _ c.expr_behind.result c.in_err-slot-2.ensures.err c.expr_behind.ensures.err)))

pub returns-in_err-codes-clause-err : goal.returns-in_err-codes-clause-err
returns-in_err-codes-clause-err c = passed_on c.from_residual-in_err-codes.result c.from_residual-in_err-codes.ensures.1 (halts_rest c.in_ok-slot.ensures.ok (halts_rest (behind_is _ c.expr_behind.result c.in_ok-slot-2.ensures.ok c.expr_behind.ensures.ok) c.in_err-codes.ensures.err))

pub returns-clause-ok : goal.returns-clause-ok
returns-clause-ok c = reads_then (reads_as (slot_said c.in_ok-slot-2.slot ∙ ap (maybe_text said_slot) c.in_ok-slot-2.ensures.ok.0) c.in_ok-slot.ensures.ok) (reads_then (behind_is _ c.expr_behind.result c.in_ok-slot-2.ensures.ok c.expr_behind.ensures.ok) c.in_ok-codes.ensures.ok)
