use Rattle.std.proofs.Common.{IfOk, subst, sym}
use Rattle.dsr_cli.specs.Stages.{comes_to, due}
use Rattle.dsr_command_theory.specs.Commands.{reads}
use Rattle.dsr_script.specs.Moves.{Follows}
use Rattle.dsr_cli.proofs.waiting.next_move.Goals as goal

pub returns-in-Spec-clause-follows : goal.returns-in-Spec-clause-follows
returns-in-Spec-clause-follows c =
    let next = c.read_spec.result in
    subst (λ stage. IfOk next (λ move. Follows due (due stage c.args.bytes.items) move)) (sym c.in-Spec.is)
    (subst (λ text. IfOk next (λ move. Follows due (reads text (comes_to c.in-Spec.task)) move)) c.deref.ensures.value c.read_spec.ensures.follows)
