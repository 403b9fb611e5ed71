use Rattle.dsr_parse.proofs.Passing.{halts_first, halts_rest, passed_on, reads_then}
use Rattle.dsr_parse.proofs.Taking.{turns_as}
use Rattle.dsr_syntax_theory.specs.TreeTexts.{relation_text, set_text}
use Rattle.dsr_parse.proofs.reader.Reader.tree_end.Goals as goal

pub returns-in_err-sets-clause-err : goal.returns-in_err-sets-clause-err
returns-in_err-sets-clause-err c = passed_on c.from_residual.result c.from_residual.ensures.1 (halts_first c.in_err-sets.ensures.err)

pub returns-in_err-relations-clause-err : goal.returns-in_err-relations-clause-err
returns-in_err-relations-clause-err c = passed_on c.from_residual-in_err-relations.result c.from_residual-in_err-relations.ensures.1 (halts_rest c.in_ok-sets.ensures.ok (halts_first c.in_err-relations.ensures.err))

pub returns-in_err-rules-clause-err : goal.returns-in_err-rules-clause-err
returns-in_err-rules-clause-err c = passed_on c.from_residual-in_err-rules.result c.from_residual-in_err-rules.ensures.1 (halts_rest c.in_ok-sets.ensures.ok (halts_rest c.in_ok-relations.ensures.ok c.in_err-rules.ensures.err))

pub returns-clause-ok : goal.returns-clause-ok
returns-clause-ok c = reads_then (turns_as set_text c.new.ensures c.in_ok-sets.ensures.ok) (reads_then (turns_as relation_text c.new-2.ensures c.in_ok-relations.ensures.ok) c.in_ok-rules.ensures.ok)
