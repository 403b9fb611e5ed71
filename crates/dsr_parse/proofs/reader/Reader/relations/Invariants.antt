use Rattle.std.proofs.Common.{length}
use Rattle.dsr_syntax_theory.specs.Grammar.{relation}
use Rattle.dsr_syntax_theory.specs.TreeTexts.{relation_text}
use Rattle.dsr_parse.specs.Reading.{ReadsItems}
use Rattle.dsr_parse.proofs.reader.Reader.relations.Given as goal

abbrev pub invariant-loop-relations : goal.invariant-loop-relations
invariant-loop-relations l = ReadsItems relation relation_text l.relations.items l.fn.self l.self

abbrev pub decreases-loop-relations : goal.decreases-loop-relations
decreases-loop-relations l = length l.self.rest
