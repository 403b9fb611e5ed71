use Rattle.std.proofs.Common.{◌≡◌, map, drop}
use Rattle.dsr_tree.specs.Trees.{join_shape, unit_shape, in_joins, in_units}
use Rattle.dsr_language_theory.specs.Constraints.{joins_have_value, units_have_value}
use Rattle.dsr_constraint.proofs.negations.+value.Given as goal

abbrev pub invariant-joins_have_value-loop-join : goal.invariant-joins_have_value-loop-join
invariant-joins_have_value-loop-join l = joins_have_value (in_joins (map join_shape (drop l.join-index l.joins))) ≡ joins_have_value (in_joins (map join_shape l.joins))

abbrev pub invariant-units_have_value-loop-unit : goal.invariant-units_have_value-loop-unit
invariant-units_have_value-loop-unit l = units_have_value (in_units (map unit_shape (drop l.unit-index l.units))) ≡ units_have_value (in_units (map unit_shape l.units))
