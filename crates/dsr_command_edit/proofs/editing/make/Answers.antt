use Rattle.std.proofs.Common.{map, subst}
use Rattle.dsr_command_edit.proofs.Stepped.{refused_so}
use Rattle.dsr_edit.specs.Edits.{IsEditFault}
use Rattle.dsr_edit_text.specs.Shown.{shown}
use Rattle.dsr_command_edit.proofs.editing.make.Goals as goal

pub returns-in-Err-clause-step : goal.returns-in-Err-clause-step
returns-in-Err-clause-step c =
    let layout = c.args.session.now.1 in
    let old = c.args.session.now.2 in
    refused_so c.args.spec.now layout (map shown c.args.group.now) c.args.writes.now c.requires.writes c.requires.may old c.edit.new.self.2
    c.in-Err.fault c.refused.result c.refused.ensures
    (subst (λ s. IsEditFault s layout c.args.writes.now old c.in-Err.fault) c.requires.spec c.in-Err.ensures.refused)
