use Rattle.dsr_parse.proofs.Grouped.{behind_is, behind_stops}
use Rattle.dsr_parse.proofs.Passing.{halts_first, halts_rest, passed_on, reads_as, reads_then}
use Rattle.dsr_syntax_theory.specs.TreeTexts.{size_text, word_at}
use Rattle.dsr_tree.specs.declared.tokens.Keyword.TheVariants.{Size}
use Rattle.std.proofs.Common.{ap}
use Rattle.dsr_parse.proofs.reader.Reader.count_atom.Goals as goal

pub returns-in_err-place-clause-err : goal.returns-in_err-place-clause-err
returns-in_err-place-clause-err c = passed_on c.from_residual.result c.from_residual.ensures.1 (halts_first (halts_first c.in_err-place.ensures.err))

pub returns-in_err-size-clause-err : goal.returns-in_err-size-clause-err
returns-in_err-size-clause-err c = passed_on c.from_residual-in_err-size.result c.from_residual-in_err-size.ensures.1 (halts_first (halts_rest c.in_ok-place.ensures.ok c.in_err-size.ensures.err))

pub returns-in_err-size-2-clause-err : goal.returns-in_err-size-2-clause-err
returns-in_err-size-2-clause-err c = passed_on c.from_residual-in_err-size-2.result c.from_residual-in_err-size-2.ensures.1 (halts_rest (reads_then c.in_ok-place.ensures.ok c.in_ok-size.ensures.ok) (halts_first (behind_stops _ c.bound.result c.in_err-size-2.ensures.err c.bound.ensures.err)))

pub returns-in_err-number-clause-err : goal.returns-in_err-number-clause-err
returns-in_err-number-clause-err c = passed_on c.from_residual-in_err-number.result c.from_residual-in_err-number.ensures.1 (halts_rest (reads_then c.in_ok-place.ensures.ok c.in_ok-size.ensures.ok) (halts_rest (behind_is _ c.bound.result c.in_ok-size-2.ensures.ok c.bound.ensures.ok) c.in_err-number.ensures.err))

pub returns-clause-ok : goal.returns-clause-ok
returns-clause-ok c = reads_then (reads_as (ap size_text c.in_ok-size-2.ensures.ok.0) (reads_then (reads_as (ap (word_at Size) c.in_ok-size.ensures.place) c.in_ok-place.ensures.ok) c.in_ok-size.ensures.ok)) (reads_then (behind_is _ c.bound.result c.in_ok-size-2.ensures.ok c.bound.ensures.ok) c.in_ok-number.ensures.ok)
