use Rattle.dsr_parse.proofs.Passing.{halts_first, halts_rest, passed_on, reads_then}
use Rattle.dsr_parse.proofs.Taking.{turns_as, turns_mapped}
use Rattle.dsr_syntax_theory.specs.TreeTexts.{constraint_text, fresh_text, rule_text}
use Rattle.dsr_tree.specs.Trees.{constraint_shape}
use Rattle.dsr_parse.proofs.reader.Reader.rules_end.Goals as goal

pub returns-in_err-supplies-clause-err : goal.returns-in_err-supplies-clause-err
returns-in_err-supplies-clause-err c = passed_on c.from_residual.result c.from_residual.ensures.1 (halts_first c.in_err-supplies.ensures.err)

pub returns-in_err-rules-clause-err : goal.returns-in_err-rules-clause-err
returns-in_err-rules-clause-err c = passed_on c.from_residual-in_err-rules.result c.from_residual-in_err-rules.ensures.1 (halts_rest c.in_ok-supplies.ensures.ok (halts_first c.in_err-rules.ensures.err))

pub returns-in_err-constraints-clause-err : goal.returns-in_err-constraints-clause-err
returns-in_err-constraints-clause-err c = passed_on c.from_residual-in_err-constraints.result c.from_residual-in_err-constraints.ensures.1 (halts_rest c.in_ok-supplies.ensures.ok (halts_rest c.in_ok-rules.ensures.ok c.in_err-constraints.ensures.err))

pub returns-clause-ok : goal.returns-clause-ok
returns-clause-ok c = reads_then (turns_as fresh_text c.new.ensures c.in_ok-supplies.ensures.ok) (reads_then (turns_as rule_text c.new-2.ensures c.in_ok-rules.ensures.ok) (turns_mapped constraint_text constraint_shape c.new-3.ensures c.in_ok-constraints.ensures.ok))
