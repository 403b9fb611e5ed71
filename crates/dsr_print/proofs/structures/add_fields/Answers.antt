use Rattle.std.proofs.Common.{arith}
use Rattle.std.proofs.lemmas.Grind.{common_steps}
use Rattle.dsr_tree.specs.Trees.{field_shape}
use Rattle.dsr_syntax_theory.specs.TreeTexts.{field_text}
use Rattle.dsr_print.proofs.Steps.{adds_shape}
use Rattle.dsr_print.proofs.structures.add_fields.Goals as goal

pub loop-field-preserved : goal.loop-field-preserved
loop-field-preserved c = adds_shape field_text field_shape c.args.fields.now c.loop-field.field-index c.field-item.result c.loop-field-test.true c.field-item.is c.loop-field.invariant c.in_ok-add_field.ensures

pub returns : goal.returns
returns c = grind (arith, common_steps)
