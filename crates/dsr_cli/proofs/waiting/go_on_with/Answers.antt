use Rattle.std.proofs.Common.{IfOk, subst, sym}
use Rattle.dsr_cli.specs.Stages.{comes_to, due}
use Rattle.dsr_command_theory.specs.Commands.{plans_audit, plans_repair}
use Rattle.dsr_script.specs.Moves.{Follows}
use Rattle.dsr_tree.specs.Trees.{tree_shape}
use Rattle.dsr_cli.proofs.waiting.go_on_with.Goals as goal

pub returns-in-Repair-clause-follows : goal.returns-in-Repair-clause-follows
returns-in-Repair-clause-follows c =
    let next = c.load_damaged.result in
    subst (λ task. IfOk next (λ move. Follows due (comes_to task (tree_shape c.args.tree.now)) move)) (sym c.in-Repair.is)
    (subst (λ s. IfOk next (λ move. Follows due (plans_repair c.in-Repair.image.now c.in-Repair.out.now s) move)) c.requires.spec.is c.load_damaged.ensures.follows)

pub returns-in-Audit-clause-follows : goal.returns-in-Audit-clause-follows
returns-in-Audit-clause-follows c =
    let next = c.load_audited.result in
    subst (λ task. IfOk next (λ move. Follows due (comes_to task (tree_shape c.args.tree.now)) move)) (sym c.in-Audit.is)
    (subst (λ s. IfOk next (λ move. Follows due (plans_audit c.in-Audit.image.now c.in-Audit.report.now c.in-Audit.fixed.now s) move)) c.requires.spec.is c.load_audited.ensures.follows)
