use Rattle.std.proofs.Common.{◌≡◌, map, take, sym, ap, ◌∙◌}
use Rattle.std.proofs.lemmas.List.{take_all}
use Rattle.dsr_ir.specs.Formulas.{MoreOf, AnyOf, EveryOf, formula_shape}
use Rattle.dsr_ir.proofs.Rows.{row_shapes-hidden}
use Rattle.dsr_tree.specs.declared.tree.Formula.{out-Formula}
use Rattle.dsr_tree.specs.Trees.{join_shape, unit_shape, in_joins, in_units}
use Rattle.dsr_tree.proofs.TreeRows.{formula_is}
use Rattle.dsr_language_theory.specs.TypedConstraints.{typed_formula, typed_joins, typed_join, typed_units, typed_unit}
use Rattle.dsr_constraint.specs.Scoped.{scope_told}
use Rattle.dsr_constraint.proofs.FormulaSteps.{joins_typed, units_typed}
use Rattle.dsr_constraint.proofs.Mapped.{map_next}
use Rattle.dsr_constraint.proofs.typed_formulas.+formula.Goals as goal

pub typed_formula-returns : goal.typed_formula-returns
typed_formula-returns t c =
    let scope = scope_told c.args.scope.now in
    let first : formula_shape c.in_ok-first.first ≡ typed_join scope (join_shape (out-Formula c.args.formula.now).first) = c.in_ok-first.ensures in
    ap AnyOf (row_shapes-hidden c.in_ok-typed_joins.field-0 ∙ c.in_ok-typed_joins.ensures ∙ (λ i. MoreOf (first i) (typed_joins scope (in_joins (map join_shape (c.deref.ensures.value i))))))
    ∙ ap (typed_formula scope) (sym (formula_is c.args.formula.now))

pub typed_join-returns : goal.typed_join-returns
typed_join-returns t c =
    let scope = scope_told c.args.scope.now in
    let first : formula_shape c.in_ok-first.first ≡ typed_unit scope (unit_shape c.args.join.now.first) = c.in_ok-first.ensures in
    ap EveryOf (row_shapes-hidden c.in_ok-typed_units.field-0 ∙ c.in_ok-typed_units.ensures ∙ (λ i. MoreOf (first i) (typed_units scope (in_units (map unit_shape (c.deref.ensures.value i))))))

pub typed_joins-returns : goal.typed_joins-returns
typed_joins-returns t c = joins_typed (scope_told c.args.scope.now) (formula_shape c.args.first) (map formula_shape c.loop-join.parts.items) (take c.loop-join.join-index c.args.rest.now) c.args.rest.now c.loop-join.invariant (take_all c.loop-join.join-index c.args.rest.now c.loop-join-test.false)

pub typed_units-returns : goal.typed_units-returns
typed_units-returns t c = units_typed (scope_told c.args.scope.now) (formula_shape c.args.first) (map formula_shape c.loop-unit.parts.items) (take c.loop-unit.unit-index c.args.rest.now) c.args.rest.now c.loop-unit.invariant (take_all c.loop-unit.unit-index c.args.rest.now c.loop-unit-test.false)

pub typed_joins-loop-join-preserved : goal.typed_joins-loop-join-preserved
typed_joins-loop-join-preserved t c =
    map_next formula_shape (λ j. typed_join (scope_told c.args.scope.now) (join_shape j)) (formula_shape c.args.first) c.loop-join.parts.items c.push-in-loop-join.new.self.items c.in_ok-part.part c.args.rest.now c.loop-join.join-index c.join-item.result c.loop-join-test.true c.join-item.is c.loop-join.invariant c.in_ok-push-2.ensures.items c.in_ok-part.ensures

pub typed_units-loop-unit-preserved : goal.typed_units-loop-unit-preserved
typed_units-loop-unit-preserved t c =
    map_next formula_shape (λ u. typed_unit (scope_told c.args.scope.now) (unit_shape u)) (formula_shape c.args.first) c.loop-unit.parts.items c.push-in-loop-unit.new.self.items c.in_ok-part.part c.args.rest.now c.loop-unit.unit-index c.unit-item.result c.loop-unit-test.true c.unit-item.is c.loop-unit.invariant c.in_ok-push-2.ensures.items c.in_ok-part.ensures
