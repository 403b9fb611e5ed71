use Rattle.std.proofs.Common.{map, take}
use Rattle.dsr_tree.specs.Trees.{join_shape, unit_shape}
use Rattle.dsr_syntax_theory.specs.Phrases.{in_turn}
use Rattle.dsr_print.specs.Writing.{Adds, behind_or, behind_and}
use Rattle.dsr_print.proofs.formulas.+formula.Given as goal

abbrev pub invariant-add_more_joins-loop-join : goal.invariant-add_more_joins-loop-join
invariant-add_more_joins-loop-join l = Adds (in_turn behind_or (map join_shape (take l.join-index l.joins))) l.fn.text.items l.text.items

abbrev pub invariant-add_more_units-loop-unit : goal.invariant-add_more_units-loop-unit
invariant-add_more_units-loop-unit l = Adds (in_turn behind_and (map unit_shape (take l.unit-index l.units))) l.fn.text.items l.text.items
