use Rattle.std.proofs.Common.{length}
use Rattle.dsr_syntax_theory.specs.Grammar.{more_guard}
use Rattle.dsr_syntax_theory.specs.TreeTexts.{more_guard_text}
use Rattle.dsr_parse.specs.Reading.{ReadsItems}
use Rattle.dsr_parse.proofs.reader.Reader.more_guards.Given as goal

abbrev pub invariant-loop-guards : goal.invariant-loop-guards
invariant-loop-guards l = ReadsItems more_guard more_guard_text l.guards.items l.fn.self l.self

abbrev pub decreases-loop-guards : goal.decreases-loop-guards
decreases-loop-guards l = length l.self.rest
