use Rattle.std.proofs.Common.{sym, ap, ◌∙◌}
use Rattle.dsr_language_theory.specs.NormalForms.{negates}
use Rattle.dsr_normal.proofs.Rows.{any_shape, every_shape}
use Rattle.dsr_normal.proofs.values.+values.Goals as goal

pub negates_value-returns-in-Any : goal.negates_value-returns-in-Any
negates_value-returns-in-Any t c =
    c.any_negates.ensures
    ∙ ap (negates c.args.under_not) (sym (any_shape c.args.node.now c.in-Any.parts c.deref.result.now c.in-Any.is c.deref.ensures.value))

pub negates_value-returns-in-Every : goal.negates_value-returns-in-Every
negates_value-returns-in-Every t c =
    c.any_negates-in-Every.ensures
    ∙ ap (negates c.args.under_not) (sym (every_shape c.args.node.now c.in-Every.parts c.deref-in-Every.result.now c.in-Every.is c.deref-in-Every.ensures.value))
