use Rattle.std.proofs.Common.{◌≡◌, ◌∷◌, map, take}
use Rattle.dsr_ir.specs.Formulas.{formula_shape}
use Rattle.dsr_tree.specs.Trees.{join_shape, unit_shape}
use Rattle.dsr_language_theory.specs.TypedConstraints.{typed_join, typed_unit}
use Rattle.dsr_constraint.specs.Scoped.{scope_told}
use Rattle.dsr_constraint.proofs.typed_formulas.+formula.Given as goal

abbrev pub invariant-typed_joins-loop-join : goal.invariant-typed_joins-loop-join
invariant-typed_joins-loop-join l = map formula_shape l.parts.items ≡ formula_shape l.fn.first ∷ map (λ j. typed_join (scope_told l.scope) (join_shape j)) (take l.join-index l.rest)

abbrev pub invariant-typed_units-loop-unit : goal.invariant-typed_units-loop-unit
invariant-typed_units-loop-unit l = map formula_shape l.parts.items ≡ formula_shape l.fn.first ∷ map (λ u. typed_unit (scope_told l.scope) (unit_shape u)) (take l.unit-index l.rest)
