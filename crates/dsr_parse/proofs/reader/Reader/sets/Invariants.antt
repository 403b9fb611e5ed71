use Rattle.std.proofs.Common.{length}
use Rattle.dsr_syntax_theory.specs.Grammar.{set}
use Rattle.dsr_syntax_theory.specs.TreeTexts.{set_text}
use Rattle.dsr_parse.specs.Reading.{ReadsItems}
use Rattle.dsr_parse.proofs.reader.Reader.sets.Given as goal

abbrev pub invariant-loop-sets : goal.invariant-loop-sets
invariant-loop-sets l = ReadsItems set set_text l.sets.items l.fn.self l.self

abbrev pub decreases-loop-sets : goal.decreases-loop-sets
decreases-loop-sets l = length l.self.rest
