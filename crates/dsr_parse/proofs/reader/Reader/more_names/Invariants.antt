use Rattle.std.proofs.Common.{length}
use Rattle.dsr_syntax_theory.specs.Grammar.{more_name}
use Rattle.dsr_syntax_theory.specs.TreeTexts.{more_name_text}
use Rattle.dsr_parse.specs.Reading.{ReadsItems}
use Rattle.dsr_parse.proofs.reader.Reader.more_names.Given as goal

abbrev pub invariant-loop-names : goal.invariant-loop-names
invariant-loop-names l = ReadsItems more_name more_name_text l.names.items l.fn.self l.self

abbrev pub decreases-loop-names : goal.decreases-loop-names
decreases-loop-names l = length l.self.rest
