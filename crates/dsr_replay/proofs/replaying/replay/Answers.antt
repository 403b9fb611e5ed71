-- A step that is made, held against its entry, and taken back where it has another text.
use Rattle.std.proofs.Common.{◌≡◌, ◌+◌, ◌<◌, ◌∙◌, length, refl, sym, ap, subst}
use Rattle.dsr_ir.specs.declared.declarations.Spec.{Spec}
use Rattle.dsr_plan_theory.specs.Plans.{IsPlan}
use Rattle.dsr_repair.specs.Stepping.{State, TakesTurn, state}
use Rattle.dsr_repair_theory.specs.declared.entries.Entry.{Entry}
use Rattle.dsr_replay.proofs.Matching.{back_is, is_back, is_stopped, never_stopped, none_due, none_taken, only_pushed, text_fault}
use Rattle.dsr_replay.specs.Steps.{IsTextFault}
use Rattle.dsr_undo_laws.proofs.Runs.{as_long}
use Rattle.dsr_undo_laws.specs.TakingBack.{AreLinesBack, IsRefusedIn}
use Rattle.dsr_replay.proofs.replaying.replay.Goals as goal

pub returns-in_default : goal.returns-in_default
returns-in_default g c =
    let old = g.I.ImageBytes.bytes c.args.image.now in
    let new = g.I.ImageBytes.bytes c.step.new.image in
    let plan = subst (λ s. IsPlan s c.args.plan.now.1) c.spec-spec.ensures.is c.spec-spec.ensures.plan in
    record {
      matched = tt;
      modelled = tt;
      backed = tt;
      cursor = tt;
      claimed = tt;
      unlike = (refl, λ due after is one. none_due c.args.plan.now.0 c.args.plan.now.1 c.args.layout.now plan old c.requires.modelled.image c.in_ok-step.field-0 c.in_default.not-Step c.in_ok-step.ensures.turn due after is);
      stays = ap (λ (s : State). s.bytes) (none_taken c.args.plan.now.0 c.args.plan.now.1 c.args.layout.now
          (state old c.clear.new.self.entries c.args.model.now) (state new c.step.new.log.entries c.step.new.model) c.in_ok-step.field-0 c.in_default.not-Step c.in_ok-step.ensures.taken);
    }

pub returns-in_default-mismatch-clause-claimed : goal.returns-in_default-mismatch-clause-claimed
returns-in_default-mismatch-clause-claimed g c =
    let old = g.I.ImageBytes.bytes c.args.image.now in
    let new = g.I.ImageBytes.bytes c.step.new.image in
    let plan = subst (λ s. IsPlan s c.args.plan.now.1) c.spec-spec.ensures.is c.spec-spec.ensures.plan in
    let logged = subst (TakesTurn c.args.plan.now.0 c.args.plan.now.1 c.args.layout.now (state old c.clear.new.self.entries c.args.model.now) (state new c.step.new.log.entries c.step.new.model)) c.in-Step.is c.in_ok-step.ensures.taken in
    let long : length new ≡ length old = as_long c.args.plan.now.0 c.args.plan.now.1 c.args.layout.now plan old new logged.entry c.requires.modelled.image logged.made in
    λ i from before. c.in_ok-step.ensures.kept i (c.requires.claimed i from (subst (λ n. i < 0 + n) long before))

pub lines_back-requires-clause-claimed : goal.lines_back-requires-clause-claimed
lines_back-requires-clause-claimed g c =
    let old = g.I.ImageBytes.bytes c.args.image.now in
    let new = g.I.ImageBytes.bytes c.step.new.image in
    let plan = subst (λ s. IsPlan s c.args.plan.now.1) c.spec-spec.ensures.is c.spec-spec.ensures.plan in
    let logged = subst (TakesTurn c.args.plan.now.0 c.args.plan.now.1 c.args.layout.now (state old c.clear.new.self.entries c.args.model.now) (state new c.step.new.log.entries c.step.new.model)) c.in-Step.is c.in_ok-step.ensures.taken in
    let long : length new ≡ length old = as_long c.args.plan.now.0 c.args.plan.now.1 c.args.layout.now plan old new logged.entry c.requires.modelled.image logged.made in
    λ i from before. c.in_ok-step.ensures.kept i (c.requires.claimed i from (subst (λ n. i < 0 + n) long before))

pub unreachable-requires-then-is_err : goal.unreachable-requires-then-is_err
unreachable-requires-then-is_err g c =
    let old = g.I.ImageBytes.bytes c.args.image.now in
    let new = g.I.ImageBytes.bytes c.step.new.image in
    let plan = subst (λ s. IsPlan s c.args.plan.now.1) c.spec-spec.ensures.is c.spec-spec.ensures.plan in
    let logged = subst (TakesTurn c.args.plan.now.0 c.args.plan.now.1 c.args.layout.now (state old c.clear.new.self.entries c.args.model.now) (state new c.step.new.log.entries c.step.new.model)) c.in-Step.is c.in_ok-step.ensures.taken in
    let due_is : c.in-Some.due ≡ logged.entry = only_pushed c.clear.new.self.entries c.step.new.log.entries c.next.new.self logged.entry c.in-Some.due c.clear.ensures.entries logged.pushed (sym c.entries.ensures ∙ c.in-Some.ensures.steps) in
    let lines_are : c.bytes.result.now ≡ logged.entry.bytes = c.bytes.ensures ∙ ap (λ (e : Entry). e.bytes) due_is in
    let base_is : c.new-fixed.result ≡ c.args.plan.now.0.base = c.new-fixed.ensures ∙ ap (λ (s : Spec). s.base) c.spec-spec.ensures.is in
    let stopped = is_stopped c.lines_back.result c.if-is_err.ensures.value c.lines_back.ensures.refused in
    let refused : IsRefusedIn c.args.plan.now.0.base c.args.number logged.entry.bytes new (g.I.ImageBytes.bytes c.lines_back.new.image) stopped.0 =
    subst (λ b. IsRefusedIn b c.args.number logged.entry.bytes new (g.I.ImageBytes.bytes c.lines_back.new.image) stopped.0) base_is
    (subst (λ ls. IsRefusedIn c.new-fixed.result c.args.number ls new (g.I.ImageBytes.bytes c.lines_back.new.image) stopped.0) lines_are stopped.1) in
    never_stopped c.args.plan.now.0 c.args.plan.now.1 c.args.layout.now plan old c.requires.modelled.image logged.entry new logged.made c.args.number (g.I.ImageBytes.bytes c.lines_back.new.image) stopped.0 refused

pub returns-clause-unlike : goal.returns-clause-unlike
returns-clause-unlike g c =
    let old = g.I.ImageBytes.bytes c.args.image.now in
    let new = g.I.ImageBytes.bytes c.step.new.image in
    let plan = subst (λ s. IsPlan s c.args.plan.now.1) c.spec-spec.ensures.is c.spec-spec.ensures.plan in
    let logged = subst (TakesTurn c.args.plan.now.0 c.args.plan.now.1 c.args.layout.now (state old c.clear.new.self.entries c.args.model.now) (state new c.step.new.log.entries c.step.new.model)) c.in-Step.is c.in_ok-step.ensures.taken in
    let due_is : c.in-Some.due ≡ logged.entry = only_pushed c.clear.new.self.entries c.step.new.log.entries c.next.new.self logged.entry c.in-Some.due c.clear.ensures.entries logged.pushed (sym c.entries.ensures ∙ c.in-Some.ensures.steps) in
    let lines_are : c.bytes.result.now ≡ logged.entry.bytes = c.bytes.ensures ∙ ap (λ (e : Entry). e.bytes) due_is in
    let base_is : c.new-fixed.result ≡ c.args.plan.now.0.base = c.new-fixed.ensures ∙ ap (λ (s : Spec). s.base) c.spec-spec.ensures.is in
    text_fault c.args.plan.now.0 c.args.plan.now.1 c.args.layout.now plan old c.requires.modelled.image logged.entry new logged.made c.args.number c.args.told.now c.in-Some-mismatch.fault
    (subst (λ s. IsTextFault s c.args.number c.args.told.now logged.entry c.in-Some-mismatch.fault) c.spec-spec.ensures.is
    (subst (λ e. IsTextFault c.spec-spec.result.now c.args.number c.args.told.now e c.in-Some-mismatch.fault) due_is c.in-Some-mismatch.ensures))

pub returns-clause-stays : goal.returns-clause-stays
returns-clause-stays g c =
    let old = g.I.ImageBytes.bytes c.args.image.now in
    let new = g.I.ImageBytes.bytes c.step.new.image in
    let plan = subst (λ s. IsPlan s c.args.plan.now.1) c.spec-spec.ensures.is c.spec-spec.ensures.plan in
    let logged = subst (TakesTurn c.args.plan.now.0 c.args.plan.now.1 c.args.layout.now (state old c.clear.new.self.entries c.args.model.now) (state new c.step.new.log.entries c.step.new.model)) c.in-Step.is c.in_ok-step.ensures.taken in
    let due_is : c.in-Some.due ≡ logged.entry = only_pushed c.clear.new.self.entries c.step.new.log.entries c.next.new.self logged.entry c.in-Some.due c.clear.ensures.entries logged.pushed (sym c.entries.ensures ∙ c.in-Some.ensures.steps) in
    let lines_are : c.bytes.result.now ≡ logged.entry.bytes = c.bytes.ensures ∙ ap (λ (e : Entry). e.bytes) due_is in
    let base_is : c.new-fixed.result ≡ c.args.plan.now.0.base = c.new-fixed.ensures ∙ ap (λ (s : Spec). s.base) c.spec-spec.ensures.is in
    back_is c.args.plan.now.0 c.args.plan.now.1 c.args.layout.now plan old c.requires.modelled.image logged.entry new logged.made (g.I.ImageBytes.bytes c.lines_back.new.image)
    (subst (λ b. AreLinesBack b logged.entry.bytes new (g.I.ImageBytes.bytes c.lines_back.new.image)) base_is
    (subst (λ ls. AreLinesBack c.new-fixed.result ls new (g.I.ImageBytes.bytes c.lines_back.new.image)) lines_are
    (is_back c.lines_back.result c.if-is_err.ensures.value c.lines_back.ensures.back)))
