use Rattle.std.proofs.Common.{None, Some, subst}
use Rattle.dsr_command_edit.proofs.Sole.{no_field, no_record, write_named}
use Rattle.dsr_command_edit.specs.Found.{FindsField}
use Rattle.dsr_edit_text.specs.Shown.{shown}
use Rattle.dsr_command_edit.proofs.named.write_of.Goals as goal

pub returns-in_default : goal.returns-in_default
returns-in_default c = no_record c.args.spec.now c.requires.typed (shown c.args.set.now) c.in_default.ensures

pub returns-in_default-field_named : goal.returns-in_default-field_named
returns-in_default-field_named c =
    no_field c.args.spec.now c.requires.typed (shown c.args.set.now) c.in-Some.elem c.in-Some.ensures
    (subst (λ shape. FindsField c.args.spec.now.base c.in-Some.elem.pool c.args.set.now.field.now shape None) c.is_some.ensures c.in_default-field_named.ensures)

pub returns : goal.returns
returns c =
    write_named c.args.spec.now c.requires.typed (shown c.args.set.now) c.in-Some.elem c.in-Some.ensures c.in-Some-field_named.field
    (subst (λ shape. FindsField c.args.spec.now.base c.in-Some.elem.pool c.args.set.now.field.now shape (Some c.in-Some-field_named.field)) c.is_some.ensures c.in-Some-field_named.ensures)
