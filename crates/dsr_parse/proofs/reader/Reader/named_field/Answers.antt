use Rattle.dsr_parse.proofs.PartTexts.{fixed_taken}
use Rattle.dsr_parse.proofs.Passing.{halts_first, halts_rest, passed_on, reads_then}
use Rattle.dsr_parse.proofs.reader.Reader.named_field.Goals as goal

pub returns-in_err-width-clause-err : goal.returns-in_err-width-clause-err
returns-in_err-width-clause-err c = passed_on c.from_residual.result c.from_residual.ensures.1 (halts_rest (fixed_taken c.take_word-fixed.result c.take_word-fixed.ensures.some c.take_word-fixed.ensures.next c.take_word-fixed.ensures.none c.take_word-fixed.ensures.same) (halts_first c.in_err-width.ensures.err))

pub returns-in_err-name-clause-err : goal.returns-in_err-name-clause-err
returns-in_err-name-clause-err c = passed_on c.from_residual-in_err-name.result c.from_residual-in_err-name.ensures.1 (halts_rest (fixed_taken c.take_word-fixed.result c.take_word-fixed.ensures.some c.take_word-fixed.ensures.next c.take_word-fixed.ensures.none c.take_word-fixed.ensures.same) (halts_rest c.in_ok-width.ensures.ok (halts_first c.in_err-name.ensures.err)))

pub returns-in_err-length-clause-err : goal.returns-in_err-length-clause-err
returns-in_err-length-clause-err c = passed_on c.from_residual-in_err-length.result c.from_residual-in_err-length.ensures.1 (halts_rest (fixed_taken c.take_word-fixed.result c.take_word-fixed.ensures.some c.take_word-fixed.ensures.next c.take_word-fixed.ensures.none c.take_word-fixed.ensures.same) (halts_rest c.in_ok-width.ensures.ok (halts_rest c.in_ok-name.ensures.ok c.in_err-length.ensures.err)))

pub returns-clause-ok : goal.returns-clause-ok
returns-clause-ok c = reads_then (fixed_taken c.take_word-fixed.result c.take_word-fixed.ensures.some c.take_word-fixed.ensures.next c.take_word-fixed.ensures.none c.take_word-fixed.ensures.same) (reads_then c.in_ok-width.ensures.ok (reads_then c.in_ok-name.ensures.ok c.in_ok-length.ensures.ok))
