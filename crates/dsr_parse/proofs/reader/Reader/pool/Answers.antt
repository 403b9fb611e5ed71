use Rattle.dsr_syntax_theory.specs.Phrases.{◌▸◌}
use Rattle.dsr_parse.proofs.Grouped.{behind_is, behind_stops, halts_behind, halts_group, reads_group}
use Rattle.dsr_parse.proofs.Passing.{halts_first, halts_rest, passed_on, reads_as, reads_then}
use Rattle.dsr_syntax_theory.specs.TreeTexts.{brackets_text, mark, name_text}
use Rattle.dsr_tree.specs.Trees.{expr_shape}
use Rattle.dsr_tree.specs.declared.tokens.Sign.TheVariants.{Colon}
use Rattle.std.proofs.Common.{ap}
use Rattle.dsr_parse.proofs.reader.Reader.pool.Goals as goal

pub returns-in_err-place-clause-err : goal.returns-in_err-place-clause-err
returns-in_err-place-clause-err c = passed_on c.from_residual.result c.from_residual.ensures.1 (halts_first c.in_err-place.ensures.err)

pub returns-in_err-name-clause-err : goal.returns-in_err-name-clause-err
returns-in_err-name-clause-err c = passed_on c.from_residual-in_err-name.result c.from_residual-in_err-name.ensures.1 (halts_rest c.in_ok-place.ensures.ok (halts_group c.in_err-name.ensures.err))

pub returns-in_err-name-2-clause-err : goal.returns-in_err-name-2-clause-err
returns-in_err-name-2-clause-err c = passed_on c.from_residual-in_err-name-2.result c.from_residual-in_err-name-2.ensures.1 (halts_rest c.in_ok-place.ensures.ok (halts_behind c.in_ok-name.ensures.ok (halts_first (behind_stops _ c.name.result c.in_err-name-2.ensures.err c.name.ensures.err))))

pub returns-in_err-count-clause-err : goal.returns-in_err-count-clause-err
returns-in_err-count-clause-err c = passed_on c.from_residual-in_err-count.result c.from_residual-in_err-count.ensures.1 (halts_rest c.in_ok-place.ensures.ok (halts_behind c.in_ok-name.ensures.ok (halts_rest (behind_is _ c.name.result c.in_ok-name-2.ensures.ok c.name.ensures.ok) (halts_first c.in_err-count.ensures.err))))

pub returns-in_err-count-2-clause-err : goal.returns-in_err-count-2-clause-err
returns-in_err-count-2-clause-err c = passed_on c.from_residual-in_err-count-2.result c.from_residual-in_err-count-2.ensures.1 (halts_rest c.in_ok-place.ensures.ok (halts_behind c.in_ok-name.ensures.ok (halts_rest (behind_is _ c.name.result c.in_ok-name-2.ensures.ok c.name.ensures.ok) (halts_rest c.in_ok-count.ensures.ok (behind_stops _ c.pool_end.result c.in_err-count-2.ensures.err c.pool_end.ensures.err)))))

pub returns-clause-ok : goal.returns-clause-ok
returns-clause-ok c = reads_then c.in_ok-place.ensures.ok (reads_group (reads_as (ap (λ n. name_text n ▸ mark Colon) c.in_ok-name-2.ensures.ok.0) c.in_ok-name.ensures.ok) (reads_then (behind_is _ c.name.result c.in_ok-name-2.ensures.ok c.name.ensures.ok) (reads_then (reads_as (ap (λ e. brackets_text (expr_shape e)) c.in_ok-count-2.ensures.ok.0) c.in_ok-count.ensures.ok) (behind_is _ c.pool_end.result c.in_ok-count-2.ensures.ok c.pool_end.ensures.ok))))
