use Rattle.std.proofs.Common.{refl, subst}
use Rattle.dsr_command_edit.specs.Ends.{HasReady, opening_of}
use Rattle.dsr_command_edit.specs.Opened.{IsOpening, Opens, Refuses}
use Rattle.dsr_command_theory.specs.Commands.{edits}
use Rattle.dsr_script.specs.Moves.{shown}
use Rattle.dsr_cli.proofs.waiting.load_script.Goals as goal

pub returns-in-Ready-clause-follows : goal.returns-in-Ready-clause-follows
returns-in-Ready-clause-follows c =
    let opened = subst (λ o. IsOpening c.args.spec c.args.image.items (opening_of o)) c.in-Ready.is c.in_ok-ready.ensures.opened in
    let is = subst (HasReady c.args.spec c.args.image.items) c.in-Ready.is c.in_ok-ready.ensures.ready in
    ((Opens, opened, refl), λ bytes more next told. (Opens, opened, (refl, subst (λ r. edits c.args.out.now r.0 r.1 bytes more next) is told)))
