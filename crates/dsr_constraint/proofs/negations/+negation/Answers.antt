use Rattle.dsr_tree.proofs.TreeRows.{formula_is}
use Rattle.dsr_names.proofs.Finding.{finds_then}
use Rattle.dsr_constraint.proofs.FormulaSteps.{finds_negated_join, finds_negated_unit}
use Rattle.dsr_constraint.proofs.negations.+negation.Goals as goal

pub check_negations-returns : goal.check_negations-returns
check_negations-returns t c = rw (formula_is c.args.formula.now) (finds_then c.check_join_negations.ensures (rw c.deref.ensures.value at c.check_joins_negations.ensures))

pub check_join_negations-returns : goal.check_join_negations-returns
check_join_negations-returns t c = finds_then c.check_unit_negations.ensures (rw c.deref.ensures.value at c.check_units_negations.ensures)

pub check_joins_negations-loop-join-preserved : goal.check_joins_negations-loop-join-preserved
check_joins_negations-loop-join-preserved t c = finds_negated_join c.args.joins.now c.loop-join.join-index c.join-item.result c.loop-join-test.true c.join-item.is c.loop-join.invariant c.check_join_negations.ensures

pub check_units_negations-loop-unit-preserved : goal.check_units_negations-loop-unit-preserved
check_units_negations-loop-unit-preserved t c = finds_negated_unit c.args.units.now c.loop-unit.unit-index c.unit-item.result c.loop-unit-test.true c.unit-item.is c.loop-unit.invariant c.check_unit_negations.ensures
