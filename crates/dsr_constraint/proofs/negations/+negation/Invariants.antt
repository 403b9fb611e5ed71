use Rattle.std.proofs.Common.{map, take}
use Rattle.dsr_tree.specs.Trees.{join_shape, unit_shape, in_joins, in_units}
use Rattle.dsr_language_theory.specs.Constraints.{joins_negations, units_negations}
use Rattle.dsr_names.specs.Telling.{Finds}
use Rattle.dsr_constraint.proofs.negations.+negation.Given as goal

abbrev pub invariant-check_joins_negations-loop-join : goal.invariant-check_joins_negations-loop-join
invariant-check_joins_negations-loop-join l = Finds (joins_negations (in_joins (map join_shape (take l.join-index l.joins)))) l.fn.told.fault l.told.fault

abbrev pub invariant-check_units_negations-loop-unit : goal.invariant-check_units_negations-loop-unit
invariant-check_units_negations-loop-unit l = Finds (units_negations (in_units (map unit_shape (take l.unit-index l.units)))) l.fn.told.fault l.told.fault
