use Rattle.dsr_parse.proofs.Grouped.{behind_is, behind_stops, handed}
use Rattle.dsr_parse.proofs.PartTexts.{length_said}
use Rattle.dsr_parse.proofs.Passing.{err_from, halts_first, halts_rest, passed_on, reads_as, reads_then}
use Rattle.dsr_parse.specs.Reading.{said_length}
use Rattle.dsr_syntax_theory.specs.TreeTexts.{maybe_text}
use Rattle.std.proofs.Common.{ap, ◌∙◌}
use Rattle.dsr_parse.proofs.reader.Reader.field_end.Goals as goal

pub returns-in_err-length-clause-err : goal.returns-in_err-length-clause-err
returns-in_err-length-clause-err c = passed_on c.from_residual.result c.from_residual.ensures.1 (halts_first c.in_err-length.ensures.err)

pub returns-in_err-end-clause-err : goal.returns-in_err-end-clause-err
returns-in_err-end-clause-err c = passed_on c.from_residual-in_err-end.result c.from_residual-in_err-end.ensures.1 (halts_rest c.in_ok-length.ensures.ok (halts_first (behind_stops _ c.content.result c.in_err-end.ensures.err c.content.ensures.err)))

pub returns-clause-ok : goal.returns-clause-ok
returns-clause-ok c = handed _ c.ended.result c.ended.ensures.same c.ended.ensures.ok (λ last. reads_then (reads_as (length_said c.in_ok-end.end.0 ∙ ap (maybe_text said_length) c.in_ok-end.ensures.ok.0) c.in_ok-length.ensures.ok) (reads_then (behind_is _ c.content.result c.in_ok-end.ensures.ok c.content.ensures.ok) last))

pub returns-clause-err : goal.returns-clause-err
returns-clause-err c = err_from c.ended.result (λ e h. halts_rest c.in_ok-length.ensures.ok (halts_rest (behind_is _ c.content.result c.in_ok-end.ensures.ok c.content.ensures.ok) h)) c.ended.ensures.err
