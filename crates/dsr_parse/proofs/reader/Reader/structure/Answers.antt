use Rattle.dsr_parse.proofs.Grouped.{behind_is, behind_stops}
use Rattle.dsr_parse.proofs.PartTexts.{fields_said}
use Rattle.dsr_parse.proofs.Passing.{halts_first, halts_rest, passed_on, reads_as, reads_then}
use Rattle.dsr_parse.specs.Ends.{braced_text}
use Rattle.dsr_syntax_theory.specs.TreeTexts.{name_text}
use Rattle.std.proofs.Common.{ap}
use Rattle.dsr_parse.proofs.reader.Reader.structure.Goals as goal

pub returns-in_err-place-clause-err : goal.returns-in_err-place-clause-err
returns-in_err-place-clause-err c = passed_on c.from_residual.result c.from_residual.ensures.1 (halts_first c.in_err-place.ensures.err)

pub returns-in_err-name-clause-err : goal.returns-in_err-name-clause-err
returns-in_err-name-clause-err c = passed_on c.from_residual-in_err-name.result c.from_residual-in_err-name.ensures.1 (halts_rest c.in_ok-place.ensures.ok (halts_first c.in_err-name.ensures.err))

pub returns-in_err-name-2-clause-err : goal.returns-in_err-name-2-clause-err
returns-in_err-name-2-clause-err c = passed_on c.from_residual-in_err-name-2.result c.from_residual-in_err-name-2.ensures.1 (halts_rest c.in_ok-place.ensures.ok (halts_rest c.in_ok-name.ensures.ok (halts_first (behind_stops _ c.parent.result c.in_err-name-2.ensures.err c.parent.ensures.err))))

pub returns-in_err-fields-clause-err : goal.returns-in_err-fields-clause-err
returns-in_err-fields-clause-err c = passed_on c.from_residual-in_err-fields.result c.from_residual-in_err-fields.ensures.1 (halts_rest c.in_ok-place.ensures.ok (halts_rest c.in_ok-name.ensures.ok (halts_rest (behind_is _ c.parent.result c.in_ok-name-2.ensures.ok c.parent.ensures.ok) c.in_err-fields.ensures.err)))

pub returns-clause-ok : goal.returns-clause-ok
returns-clause-ok c = reads_then c.in_ok-place.ensures.ok (reads_then (reads_as (ap name_text c.in_ok-name-2.ensures.ok.0) c.in_ok-name.ensures.ok) (reads_then (behind_is _ c.parent.result c.in_ok-name-2.ensures.ok c.parent.ensures.ok) (reads_as (ap braced_text (fields_said c.new.ensures)) c.in_ok-fields.ensures.ok)))
