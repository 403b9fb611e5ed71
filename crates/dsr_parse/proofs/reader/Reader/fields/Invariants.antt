use Rattle.std.proofs.Common.{length}
use Rattle.dsr_syntax_theory.specs.Grammar.{field}
use Rattle.dsr_parse.specs.Reading.{ReadsItems, said_field}
use Rattle.dsr_parse.proofs.reader.Reader.fields.Given as goal

abbrev pub invariant-loop-fields : goal.invariant-loop-fields
invariant-loop-fields l = ReadsItems field said_field l.fields.items l.fn.self l.self

abbrev pub decreases-loop-fields : goal.decreases-loop-fields
decreases-loop-fields l = length l.self.rest
