use Rattle.std.proofs.Common.{take}
use Rattle.dsr_syntax_theory.specs.Phrases.{in_turn}
use Rattle.dsr_syntax_theory.specs.TreeTexts.{more_name_text}
use Rattle.dsr_print.specs.Writing.{Adds}
use Rattle.dsr_print.proofs.pools.add_more_names.Given as goal

abbrev pub invariant-loop-name : goal.invariant-loop-name
invariant-loop-name l = Adds (in_turn more_name_text (take l.name-index l.names)) l.fn.text.items l.text.items
