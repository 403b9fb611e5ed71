use Rattle.std.proofs.Common.{◌≡◌, IfOk, map, subst}
use Rattle.dsr_layout.specs.Telling.{Tells}
use Rattle.dsr_meaning.proofs.Placing.{spec_placeable}
use Rattle.dsr_meaning.specs.Consistency.{AreViolations}
use Rattle.dsr_meaning.specs.Models.{IsFact}
use Rattle.dsr_meaning.specs.Refusals.{IsLayoutOf, refusals}
use Rattle.dsr_script.specs.Moves.{shown}
use Rattle.dsr_answers.specs.Texts.{verdict_answer}
use Rattle.dsr_meaning.specs.Consistency.{bound_constraint}
use Rattle.dsr_command_image.proofs.Answered.{checked_answer, refused_answer}
use Rattle.dsr_command_image.specs.Checked.{IsCheckAnswer}
use Rattle.dsr_command_image.specs.Checked.IsCheckAnswer.{refused}
use Rattle.dsr_command_image.proofs.checks.check.Goals as goal

pub layout-requires-clause-placeable : goal.layout-requires-clause-placeable
layout-requires-clause-placeable c = spec_placeable c.args.spec.now c.requires.typed

pub returns-in-Err : goal.returns-in-Err
returns-in-Err c =
    refused_answer c.args.spec.now c.args.image.items c.in-Err.fault (IsCheckAnswer c.args.spec.now c.args.image.items) refused c.layout_refused.result
    (subst (λ bytes. Tells (refusals c.args.spec.now bytes) c.in-Err.fault)
    c.deref.ensures.value c.in-Err.ensures.refused)
    c.layout_refused.ensures.told c.layout_refused.ensures.known

pub returns : goal.returns
returns c =
    let vs = map bound_constraint c.in_ok-found.found.items in
    checked_answer c.args.spec.now c.args.image.items c.in-Ok.layout vs c.verdict.result
    (subst (λ bytes. IsLayoutOf c.args.spec.now bytes c.in-Ok.layout)
    c.deref.ensures.value c.in-Ok.ensures.layout)
    (subst (λ bytes. AreViolations (IsFact c.args.spec.now c.in-Ok.layout bytes) c.args.spec.now vs)
    c.new-image.ensures c.in_ok-found.ensures)
    (subst (λ ws. IfOk c.verdict.result (λ told. shown told ≡ verdict_answer c.args.spec.now (map bound_constraint ws)))
    c.deref-2.ensures.value c.verdict.ensures)
