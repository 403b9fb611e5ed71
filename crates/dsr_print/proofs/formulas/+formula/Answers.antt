use Rattle.std.proofs.lemmas.Result.{on_ok_weaker}
use Rattle.dsr_tree.specs.Trees.{join_shape, unit_shape}
use Rattle.dsr_print.specs.Writing.{behind_or, behind_and}
use Rattle.dsr_print.proofs.Steps.{adds_then, adds_shape}
use Rattle.dsr_print.proofs.Rows.{formula_is, join_is}
use Rattle.dsr_print.proofs.formulas.+formula.Goals as goal

pub add_formula-returns : goal.add_formula-returns
add_formula-returns t c = on_ok_weaker c.add_more_joins.result (λ last. rw (formula_is c.args.formula.now) (adds_then c.in_ok-add_join.ensures (rw c.deref.ensures.value at last))) c.add_more_joins.ensures

pub add_join-returns : goal.add_join-returns
add_join-returns t c = on_ok_weaker c.add_more_units.result (λ last. rw (join_is c.args.join.now) (adds_then c.in_ok-add_unit.ensures (rw c.deref.ensures.value at last))) c.add_more_units.ensures

pub add_more_joins-loop-join-preserved : goal.add_more_joins-loop-join-preserved
add_more_joins-loop-join-preserved t c = adds_shape behind_or join_shape c.args.joins.now c.loop-join.join-index c.join-item.result c.loop-join-test.true c.join-item.is c.loop-join.invariant (adds_then c.in_ok-add_keyword.ensures c.in_ok-add_join.ensures)

pub add_more_units-loop-unit-preserved : goal.add_more_units-loop-unit-preserved
add_more_units-loop-unit-preserved t c = adds_shape behind_and unit_shape c.args.units.now c.loop-unit.unit-index c.unit-item.result c.loop-unit-test.true c.unit-item.is c.loop-unit.invariant (adds_then c.in_ok-add_keyword.ensures c.in_ok-add_unit.ensures)

pub add_group-returns : goal.add_group-returns
add_group-returns t c = on_ok_weaker c.add_sign-2.result (λ last. adds_then c.in_ok-add_sign.ensures (adds_then c.in_ok-add_formula.ensures last)) c.add_sign-2.ensures
