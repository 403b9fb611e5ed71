use Rattle.std.proofs.Common.{map, refl, sym, ap, ◌∙◌}
use Rattle.dsr_tree.specs.Trees.{join_shape, in_joins}
use Rattle.dsr_language_theory.specs.Constraints.{joins_have_value}
use Rattle.dsr_constraint.proofs.FormulaSteps.{value_is}
use Rattle.dsr_constraint.proofs.negations.+value.Goals as goal

pub has_value-returns-then-join_has_value : goal.has_value-returns-then-join_has_value
has_value-returns-then-join_has_value t c = c.if-join_has_value.true ∙ value_is c.args.formula.now (sym c.if-join_has_value.true ∙ c.join_has_value.ensures) refl

pub has_value-returns-else-join_has_value : goal.has_value-returns-else-join_has_value
has_value-returns-else-join_has_value t c = value_is c.args.formula.now (sym c.if-join_has_value.false ∙ c.join_has_value.ensures) (c.joins_have_value.ensures ∙ ap (λ js. joins_have_value (in_joins (map join_shape js))) c.deref.ensures.value)
