use Rattle.std.proofs.Common.{Ok}
use Rattle.dsr_command_audit.specs.Laid.{IsFound, Refused}
use Rattle.dsr_command_audit.specs.Laid.IsFound.{lies, refused}
use Rattle.dsr_command_image.proofs.Answered.{refused_answer}
use Rattle.dsr_command_audit.proofs.layouts.lay_out.Goals as goal

pub returns-in-Ok : goal.returns-in-Ok
returns-in-Ok c = lies c.in-Ok.layout c.in-Ok.ensures.image

pub returns-in_ok-layout_refused-in-Err : goal.returns-in_ok-layout_refused-in-Err
returns-in_ok-layout_refused-in-Err c =
    refused_answer {E = Unit {0}} c.args.spec.now c.args.image.now c.in-Err.fault (λ a. IsFound c.args.spec.now c.args.image.now (Refused a)) refused (Ok c.in_ok-layout_refused-in-Err.field-0)
    c.in-Err.ensures.refused c.in_ok-layout_refused-in-Err.ensures.told c.in_ok-layout_refused-in-Err.ensures.known
