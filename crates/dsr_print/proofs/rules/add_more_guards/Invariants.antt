use Rattle.std.proofs.Common.{take}
use Rattle.dsr_syntax_theory.specs.Phrases.{in_turn}
use Rattle.dsr_syntax_theory.specs.TreeTexts.{more_guard_text}
use Rattle.dsr_print.specs.Writing.{Adds}
use Rattle.dsr_print.proofs.rules.add_more_guards.Given as goal

abbrev pub invariant-loop-guard : goal.invariant-loop-guard
invariant-loop-guard l = Adds (in_turn more_guard_text (take l.guard-index l.guards)) l.fn.text.items l.text.items
