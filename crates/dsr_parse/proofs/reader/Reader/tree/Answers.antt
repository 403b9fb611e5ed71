use Rattle.dsr_parse.proofs.Passing.{halts_first, halts_rest, passed_on, reads_then}
use Rattle.dsr_parse.proofs.Taking.{turns_mapped}
use Rattle.dsr_syntax_theory.specs.TreeTexts.{pool_text, structure_text}
use Rattle.dsr_tree.specs.Trees.{pool_shape, structure_shape}
use Rattle.dsr_parse.proofs.reader.Reader.tree.Goals as goal

pub returns-in_err-place-clause-err : goal.returns-in_err-place-clause-err
returns-in_err-place-clause-err c = passed_on c.from_residual.result c.from_residual.ensures.1 (halts_first c.in_err-place.ensures.err)

pub returns-in_err-order-clause-err : goal.returns-in_err-order-clause-err
returns-in_err-order-clause-err c = passed_on c.from_residual-in_err-order.result c.from_residual-in_err-order.ensures.1 (halts_rest c.in_ok-place.ensures.ok (halts_first c.in_err-order.ensures.err))

pub returns-in_err-structures-clause-err : goal.returns-in_err-structures-clause-err
returns-in_err-structures-clause-err c = passed_on c.from_residual-in_err-structures.result c.from_residual-in_err-structures.ensures.1 (halts_rest c.in_ok-place.ensures.ok (halts_rest c.in_ok-order.ensures.ok (halts_first c.in_err-structures.ensures.err)))

pub returns-in_err-pools-clause-err : goal.returns-in_err-pools-clause-err
returns-in_err-pools-clause-err c = passed_on c.from_residual-in_err-pools.result c.from_residual-in_err-pools.ensures.1 (halts_rest c.in_ok-place.ensures.ok (halts_rest c.in_ok-order.ensures.ok (halts_rest c.in_ok-structures.ensures.ok (halts_first c.in_err-pools.ensures.err))))

pub returns-in_err-end-clause-err : goal.returns-in_err-end-clause-err
returns-in_err-end-clause-err c = passed_on c.from_residual-in_err-end.result c.from_residual-in_err-end.ensures.1 (halts_rest c.in_ok-place.ensures.ok (halts_rest c.in_ok-order.ensures.ok (halts_rest c.in_ok-structures.ensures.ok (halts_rest c.in_ok-pools.ensures.ok c.in_err-end.ensures.err))))

pub returns-clause-ok : goal.returns-clause-ok
returns-clause-ok c = reads_then c.in_ok-place.ensures.ok (reads_then c.in_ok-order.ensures.ok (reads_then (turns_mapped structure_text structure_shape c.new.ensures c.in_ok-structures.ensures.ok) (reads_then (turns_mapped pool_text pool_shape c.new-2.ensures c.in_ok-pools.ensures.ok) c.in_ok-end.ensures.ok)))
