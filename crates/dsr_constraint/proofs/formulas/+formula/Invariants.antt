use Rattle.std.proofs.Common.{map, take}
use Rattle.dsr_tree.specs.Trees.{join_shape, unit_shape, in_joins, in_units}
use Rattle.dsr_language_theory.specs.Constraints.{joins_faults, units_faults}
use Rattle.dsr_names.specs.Telling.{Finds}
use Rattle.dsr_constraint.specs.Scoped.{scope_told}
use Rattle.dsr_constraint.proofs.formulas.+formula.Given as goal

abbrev pub invariant-check_joins-loop-join : goal.invariant-check_joins-loop-join
invariant-check_joins-loop-join l = Finds (joins_faults (scope_told l.scope) l.constants.rules.now (in_joins (map join_shape (take l.join-index l.joins)))) l.fn.told.fault l.told.fault

abbrev pub invariant-check_units-loop-unit : goal.invariant-check_units-loop-unit
invariant-check_units-loop-unit l = Finds (units_faults (scope_told l.scope) l.constants.rules.now (in_units (map unit_shape (take l.unit-index l.units)))) l.fn.told.fault l.told.fault
