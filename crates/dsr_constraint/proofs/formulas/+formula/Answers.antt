use Rattle.dsr_tree.proofs.TreeRows.{formula_is}
use Rattle.dsr_names.proofs.Finding.{finds_then}
use Rattle.dsr_constraint.specs.Scoped.{scope_told}
use Rattle.dsr_constraint.proofs.FormulaSteps.{finds_join, finds_unit}
use Rattle.dsr_constraint.proofs.formulas.+formula.Goals as goal

pub check_formula-returns : goal.check_formula-returns
check_formula-returns t c = rw (formula_is c.args.formula.now) (finds_then c.check_join.ensures (rw c.deref.ensures.value at c.check_joins.ensures))

pub check_join-returns : goal.check_join-returns
check_join-returns t c = finds_then c.check_unit.ensures (rw c.deref.ensures.value at c.check_units.ensures)

pub check_joins-loop-join-preserved : goal.check_joins-loop-join-preserved
check_joins-loop-join-preserved t c = finds_join (scope_told c.args.scope.now) c.args.constants.now.rules.now c.args.joins.now c.loop-join.join-index c.join-item.result c.loop-join-test.true c.join-item.is c.loop-join.invariant c.check_join.ensures

pub check_units-loop-unit-preserved : goal.check_units-loop-unit-preserved
check_units-loop-unit-preserved t c = finds_unit (scope_told c.args.scope.now) c.args.constants.now.rules.now c.args.units.now c.loop-unit.unit-index c.unit-item.result c.loop-unit-test.true c.unit-item.is c.loop-unit.invariant c.check_unit.ensures
