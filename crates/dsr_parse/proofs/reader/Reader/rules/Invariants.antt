use Rattle.std.proofs.Common.{length}
use Rattle.dsr_syntax_theory.specs.Grammar.{rule}
use Rattle.dsr_syntax_theory.specs.TreeTexts.{rule_text}
use Rattle.dsr_parse.specs.Reading.{ReadsItems}
use Rattle.dsr_parse.proofs.reader.Reader.rules.Given as goal

abbrev pub invariant-loop-rules : goal.invariant-loop-rules
invariant-loop-rules l = ReadsItems rule rule_text l.rules.items l.fn.self l.self

abbrev pub decreases-loop-rules : goal.decreases-loop-rules
decreases-loop-rules l = length l.self.rest
