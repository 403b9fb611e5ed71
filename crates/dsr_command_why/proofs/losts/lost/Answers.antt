use Rattle.std.proofs.Common.{◌≡◌, IfOk, List, subst}
use Rattle.dsr_command_why.proofs.Answering.{listed_told, refused_told}
use Rattle.dsr_command_why.specs.Losts.{IsLostAnswer, lost_answer}
use Rattle.dsr_command_why.specs.Losts.IsLostAnswer.{unlaid}
use Rattle.dsr_ir.specs.declared.tuples.Element.{Element}
use Rattle.dsr_layout.specs.Telling.{Tells}
use Rattle.dsr_lost.specs.Lost.{AreLost}
use Rattle.dsr_meaning.specs.Refusals.{IsLayoutOf, refusals}
use Rattle.dsr_script.specs.Moves.{shown}
use Rattle.dsr_command_why.proofs.losts.lost.Goals as goal

pub returns-in-Err : goal.returns-in-Err
returns-in-Err c =
    refused_told c.args.spec.now c.args.image.items c.in-Err.fault (IsLostAnswer c.args.spec.now c.args.image.items) unlaid c.layout_refused.result
    (subst (λ bytes. Tells (refusals c.args.spec.now bytes) c.in-Err.fault) c.deref.ensures.value c.in-Err.ensures.refused)
    c.layout_refused.ensures.told c.layout_refused.ensures.known

pub returns : goal.returns
returns c =
    listed_told c.args.spec.now c.args.image.items c.in-Ok.layout c.in_ok-found.found.items c.lost_told.result
    (subst (λ bytes. IsLayoutOf c.args.spec.now bytes c.in-Ok.layout) c.deref.ensures.value c.in-Ok.ensures.image.layout_is)
    (subst (λ bytes. AreLost c.args.spec.now c.in-Ok.layout bytes c.in_ok-found.found.items) c.new.ensures c.in_ok-found.ensures)
    (subst (λ (es : List Element). IfOk c.lost_told.result (λ told. shown told ≡ lost_answer c.args.spec.now es)) c.deref-2.ensures.value c.lost_told.ensures)
