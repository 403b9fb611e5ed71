use Rattle.std.proofs.Common.{length}
use Rattle.dsr_syntax_theory.specs.Grammar.{fresh}
use Rattle.dsr_syntax_theory.specs.TreeTexts.{fresh_text}
use Rattle.dsr_parse.specs.Reading.{ReadsItems}
use Rattle.dsr_parse.proofs.reader.Reader.supplies.Given as goal

abbrev pub invariant-loop-supplies : goal.invariant-loop-supplies
invariant-loop-supplies l = ReadsItems fresh fresh_text l.supplies.items l.fn.self l.self

abbrev pub decreases-loop-supplies : goal.decreases-loop-supplies
decreases-loop-supplies l = length l.self.rest
