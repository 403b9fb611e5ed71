use Rattle.std.proofs.Common.{subst, sym}
use Rattle.dsr_repair.specs.Cursors.{IsCursorOn}
use Rattle.dsr_ir.specs.declared.declarations.Spec.{Spec}
use Rattle.dsr_plan_theory.specs.declared.choices.Choice.{Choice}
use Rattle.dsr_repair.proofs.dues.due_from.Goals as goal

pub due_at_cursor-requires-clause-cursor : goal.due_at_cursor-requires-clause-cursor
due_at_cursor-requires-clause-cursor g c =
    let bytes = g.I.ImageBytes.bytes c.args.image.now in
    subst (λ (spec : Spec). IsCursorOn spec c.choice.result.now c.args.layout.now bytes c.args.cursor.now) (sym c.spec.ensures.is)
    (subst (λ (choice : Choice). IsCursorOn c.args.plan.now.0 choice c.args.layout.now bytes c.args.cursor.now)
    (sym c.choice.ensures.is) c.requires.cursor)
