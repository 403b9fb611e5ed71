use Rattle.std.proofs.Common.{refl, ◌∙◌}
use Rattle.dsr_tree.specs.Trees.{field_shape}
use Rattle.dsr_language_theory.specs.Tables.{typed_field}
use Rattle.dsr_struct.specs.Known.{known_of, HasLegalWidth}
use Rattle.dsr_struct.proofs.Mapped.{all_shaped, item_has, made_next}
use Rattle.dsr_struct.proofs.lookups.Names.typed_fields.Goals as goal

pub typed_field-requires-clause-legal : goal.typed_field-requires-clause-legal
typed_field-requires-clause-legal c = item_has field_shape HasLegalWidth c.args.fields.now c.loop-field.field-index c.field-item.result c.loop-field-test.true c.field-item.is c.requires.legal

pub loop-field-preserved : goal.loop-field-preserved
loop-field-preserved c = made_next field_shape (typed_field (known_of c.args.self.now)) c.args.fields.now c.loop-field.field-index c.field-item.result c.loop-field.typed.items c.push.new.self.items c.in_ok-entry.entry c.loop-field-test.true c.field-item.is c.loop-field.invariant c.in_ok-push.ensures.items c.in_ok-entry.ensures

pub returns : goal.returns
returns c = c.new.ensures ∙ all_shaped field_shape (typed_field (known_of c.args.self.now)) c.args.fields.now _ refl c.loop-field.field-index c.loop-field-test.false c.loop-field.invariant
