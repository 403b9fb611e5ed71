use Rattle.std.proofs.Common.{◌∙◌, ℕ, List, ap, map, subst}
use Rattle.dsr_answers.specs.Texts.{verdict_answer}
use Rattle.dsr_command_edit.proofs.Unopened.{unlaid_told, violated_told}
use Rattle.dsr_command_edit.specs.Opened.IsOpening.{open_to}
use Rattle.dsr_edit.specs.Opened.{IsOpenFault}
use Rattle.dsr_edit.specs.Sessions.{IsPaused}
use Rattle.dsr_ir.specs.declared.declarations.Spec.{Spec}
use Rattle.dsr_ir.specs.declared.layouts.Layout.{Layout}
use Rattle.dsr_meaning.specs.Consistency.{IsConsistent, bound_constraint}
use Rattle.dsr_meaning.specs.Refusals.{IsLayoutOf}
use Rattle.dsr_step_theory.specs.Images.{IsImageOf}
use Rattle.dsr_command_edit.proofs.opening.open.Goals as goal

pub returns-in-Err-clause-opened : goal.returns-in-Err-clause-opened
returns-in-Err-clause-opened c =
    unlaid_told c.args.spec c.args.image.items c.deref.result.now c.in-Err.fault c.in_ok-layout_refused-in-Err.field-0
    c.deref.ensures.value c.in-Err.ensures.refused c.in_ok-layout_refused-in-Err.ensures.told c.in_ok-layout_refused-in-Err.ensures.known

pub returns-in-Err-Violated-clause-opened : goal.returns-in-Err-Violated-clause-opened
returns-in-Err-Violated-clause-opened c =
    let its = subst (IsOpenFault c.args.spec c.in-Ok.layout c.new.result) c.in-Err-Violated.field-0-is c.in-Err-Violated.ensures.refused in
    violated_told c.args.spec c.args.image.items c.in-Ok.layout c.new.result c.in-Err-Violated.found.items c.in_ok-verdict-in-Err-Violated.field-0
    c.new.ensures (subst (λ b. IsLayoutOf c.args.spec b c.in-Ok.layout) c.deref.ensures.value c.in-Ok.ensures.image.layout_is) its.0 its.1
    (c.in_ok-verdict-in-Err-Violated.ensures ∙ ap (λ vs. verdict_answer c.args.spec (map bound_constraint vs)) c.deref-in-Err-Violated.ensures.value)

pub new-requires-2 : goal.new-requires-2
new-requires-2 c = record {
  paused = subst (λ (s : Spec × Layout × List ℕ). IsPaused s.0 s.1 c.pause-paused.result) c.in-Ok-begin.ensures.begun c.pause-paused.ensures.paused;
}

pub returns-clause-opened : goal.returns-clause-opened
returns-clause-opened c = open_to c.in-Ok.layout (record {
  image_of = subst (IsImageOf c.args.spec c.in-Ok.layout) c.deref.ensures.value c.in-Ok.ensures.image;
  consistent = subst (IsConsistent c.args.spec c.in-Ok.layout) c.new.ensures c.in-Ok-begin.ensures.consistent;
})
