use Rattle.std.proofs.Common.{length}
use Rattle.dsr_syntax_theory.specs.Grammar.{structure}
use Rattle.dsr_parse.specs.Reading.{ReadsItems, said_structure}
use Rattle.dsr_parse.proofs.reader.Reader.structures.Given as goal

abbrev pub invariant-loop-structures : goal.invariant-loop-structures
invariant-loop-structures l = ReadsItems structure said_structure l.structures.items l.fn.self l.self

abbrev pub decreases-loop-structures : goal.decreases-loop-structures
decreases-loop-structures l = length l.self.rest
