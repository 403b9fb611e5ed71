use Rattle.std.proofs.Common.{IfOk, subst}
use Rattle.dsr_command_why.proofs.Answering.{refused_told}
use Rattle.dsr_command_why.specs.Whys.{IsWhyAnswer}
use Rattle.dsr_command_why.specs.Whys.IsWhyAnswer.{unlaid}
use Rattle.dsr_layout.specs.Telling.{Tells}
use Rattle.dsr_meaning.specs.Refusals.{refusals}
use Rattle.dsr_script.specs.Moves.{shown}
use Rattle.dsr_command_why.proofs.whys.why.Goals as goal

pub returns-in-Err : goal.returns-in-Err
returns-in-Err c =
    refused_told c.args.spec.now c.args.image.items c.in-Err.fault (IsWhyAnswer c.args.spec.now c.args.image.items c.args.word.now) unlaid c.layout_refused.result
    (subst (λ bytes. Tells (refusals c.args.spec.now bytes) c.in-Err.fault) c.deref.ensures.value c.in-Err.ensures.refused)
    c.layout_refused.ensures.told c.layout_refused.ensures.known

pub returns : goal.returns
returns c =
    subst (λ bytes. IfOk c.laid_out_told.result (λ told. IsWhyAnswer c.args.spec.now bytes c.args.word.now (shown told))) c.new-image.ensures c.laid_out_told.ensures
