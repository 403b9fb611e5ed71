use Rattle.std.proofs.Common.{map, take}
use Rattle.dsr_tree.specs.Trees.{field_shape}
use Rattle.dsr_syntax_theory.specs.Phrases.{in_turn}
use Rattle.dsr_syntax_theory.specs.TreeTexts.{field_text}
use Rattle.dsr_print.specs.Writing.{Adds}
use Rattle.dsr_print.proofs.structures.add_fields.Given as goal

abbrev pub invariant-loop-field : goal.invariant-loop-field
invariant-loop-field l = Adds (in_turn field_text (map field_shape (take l.field-index l.fields))) l.fn.text.items l.text.items
