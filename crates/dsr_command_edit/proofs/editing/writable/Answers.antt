use Rattle.std.proofs.Common.{refl, subst}
use Rattle.dsr_command_edit.proofs.Sole.{none_to_make, not_to_make}
use Rattle.dsr_edit.specs.Edits.{MayWriteSome}
use Rattle.dsr_edit_text.specs.Shown.{shown}
use Rattle.dsr_report_read.proofs.Ahead.{refused}
use Rattle.dsr_command_edit.proofs.editing.writable.Goals as goal

pub returns-in_default : goal.returns-in_default
returns-in_default c =
    none_to_make c.args.spec.now c.requires.typed (shown c.args.set.now) c.args.session.now.1 c.in_default.ensures

pub returns-then-not-may_write : goal.returns-then-not-may_write
returns-then-not-may_write c =
    not_to_make c.args.spec.now c.requires.typed (shown c.args.set.now) c.args.session.now.1 c.in-Some.write c.in-Some.ensures
    (subst (λ s. MayWriteSome s c.args.session.now.1 c.in-Some.write → ⊥) c.requires.spec (refused c.if-not-may_write.ensures))

pub returns : goal.returns
returns c = (
  c.in-Some.ensures,
  subst (λ s. MayWriteSome s c.args.session.now.1 c.in-Some.write) c.requires.spec (c.if-not-may_write.ensures.0 refl),
)
