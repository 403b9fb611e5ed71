use Rattle.std.proofs.Common.{length}
use Rattle.dsr_syntax_theory.specs.Grammar.{constraint}
use Rattle.dsr_parse.specs.Reading.{ReadsItems, said_constraint}
use Rattle.dsr_parse.proofs.reader.Reader.constraints.Given as goal

abbrev pub invariant-loop-constraints : goal.invariant-loop-constraints
invariant-loop-constraints l = ReadsItems constraint said_constraint l.constraints.items l.fn.self l.self

abbrev pub decreases-loop-constraints : goal.decreases-loop-constraints
decreases-loop-constraints l = length l.self.rest
