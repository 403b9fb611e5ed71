-- One step.
use Rattle.std.proofs.Common.{All, IfSome, refl, sym, subst, length}
use Rattle.dsr_repair_laws.proofs.MakingSteps.{writes_free}
use Rattle.dsr_fixpoint.specs.Models.{IsLaidOut, IsModelOf, IsPreparedFor}
use Rattle.dsr_plan_theory.specs.Plans.{IsPlan}
use Rattle.dsr_repair.specs.Renewing.{WasLeft, WasSupportFor}
use Rattle.dsr_repair.proofs.Renewed.{due_left, if_backed, was_left}
use Rattle.dsr_repair.proofs.Moved.{cursor_moves, cursor_stays}
use Rattle.dsr_repair.proofs.StepMade.{can_be_made, due_by_it, fixed_as_before, fixed_stay, image_stays, laid_out, nearer, never_none, on_err, same_state}
use Rattle.dsr_repair_theory.specs.Entries.{IsEntryOf}
use Rattle.dsr_resolve.specs.Rules.{AreResolved}
use Rattle.dsr_step_theory.specs.Images.{IsFree}
use Rattle.dsr_step_theory.specs.Steps.{CanStep}
use Rattle.dsr_supported.specs.Supported.{IsSupportFor}
use Rattle.dsr_repair.proofs.steps.step.Goals as goal

pub unreachable-requires : goal.unreachable-requires
unreachable-requires g c =
    never_none c.args.plan.now.0 c.args.plan.now.1 c.args.layout.now (g.I.ImageBytes.bytes c.args.image.now)
    c.in-Step.step c.in-Step.ensures.0 c.in-Step.ensures.1 c.in_default-update_of.ensures

pub make-requires : goal.make-requires
make-requires g c =
    let old = g.I.ImageBytes.bytes c.args.image.now in
    let due = due_by_it c.args.plan.now.0 c.args.plan.now.1 c.args.layout.now old c.in-Step.step c.in-Step.ensures.0
    c.in-Some.update.now c.in-Step.ensures.1 c.in-Some.ensures in
    let plan = subst (λ s. IsPlan s c.args.plan.now.1) c.spec.ensures.is c.spec.ensures.plan in
    record {
      can = subst (λ s. CanStep s c.args.layout.now c.in-Step.step c.in-Some.update.now (length old)) (sym c.spec.ensures.is)
          (can_be_made c.args.plan.now.0 c.args.plan.now.1 c.args.layout.now old c.in-Step.step c.in-Some.update.now
          c.requires.modelled.image plan due);
      free = subst (λ s. All (IsFree s) c.in-Some.update.now.writes) (sym c.spec.ensures.is)
          (writes_free c.args.plan.now.0 c.args.plan.now.1 c.args.layout.now old c.in-Step.step c.in-Some.update.now
          c.requires.modelled.image plan due);
    }

pub renew-requires-clause-laid_out : goal.renew-requires-clause-laid_out
renew-requires-clause-laid_out g c =
    let old = g.I.ImageBytes.bytes c.args.image.now in
    let new = g.I.ImageBytes.bytes c.make.new.image in
    let due = due_by_it c.args.plan.now.0 c.args.plan.now.1 c.args.layout.now old c.in-Step.step c.in-Step.ensures.0
    c.in-Some.update.now c.in-Step.ensures.1 c.in-Some.ensures in
    let plan = subst (λ s. IsPlan s c.args.plan.now.1) c.spec.ensures.is c.spec.ensures.plan in
    let told = subst (λ s. IsEntryOf s c.args.layout.now c.in-Step.step c.in-Some.update.now old new c.in_ok-make.ensures.made.entry)
    c.spec.ensures.is c.in_ok-make.ensures.made.told in
    subst (λ s. IsLaidOut s c.args.layout.now new) (sym c.spec-2.ensures.is)
    (laid_out c.args.plan.now.0 c.args.layout.now new
    (image_stays c.args.plan.now.0 c.args.plan.now.1 c.args.layout.now old c.in-Step.step c.in-Some.update.now
    c.requires.modelled.image plan due new c.in_ok-make.ensures.made.entry told))

pub renew-requires-clause-prepared : goal.renew-requires-clause-prepared
renew-requires-clause-prepared g c =
    subst (λ s. IsPreparedFor s c.args.layout.now c.args.model.now) (sym c.spec-2.ensures.is) c.requires.modelled.prepared

pub renew-requires-clause-was : goal.renew-requires-clause-was
renew-requires-clause-was g c =
    let old = g.I.ImageBytes.bytes c.args.image.now in
    let new = g.I.ImageBytes.bytes c.make.new.image in
    let due = due_by_it c.args.plan.now.0 c.args.plan.now.1 c.args.layout.now old c.in-Step.step c.in-Step.ensures.0
    c.in-Some.update.now c.in-Step.ensures.1 c.in-Some.ensures in
    let plan = subst (λ s. IsPlan s c.args.plan.now.1) c.spec.ensures.is c.spec.ensures.plan in
    let told = subst (λ s. IsEntryOf s c.args.layout.now c.in-Step.step c.in-Some.update.now old new c.in_ok-make.ensures.made.entry)
    c.spec.ensures.is c.in_ok-make.ensures.made.told in
    subst (λ s. WasLeft s c.args.layout.now c.in-Some.update.now c.in-Step.step new c.args.model.now) (sym c.spec-2.ensures.is)
    (was_left c.args.plan.now.0 c.args.plan.now.1 c.args.layout.now old new c.in-Step.step c.in-Some.update.now c.in_ok-make.ensures.made.entry c.args.model.now plan c.requires.modelled.image due told c.requires.modelled.model)

pub returns-in_err-make-clause-stays : goal.returns-in_err-make-clause-stays
returns-in_err-make-clause-stays g c =
    on_err c.from_residual.result
    (same_state (g.I.ImageBytes.bytes c.make.new.image) (g.I.ImageBytes.bytes c.args.image.now)
    c.make.new.log.entries c.args.log.now.entries c.args.model.now c.in_err-make.ensures.same c.in_err-make.ensures.logged)

pub returns-in_err-make-clause-fixed : goal.returns-in_err-make-clause-fixed
returns-in_err-make-clause-fixed g c = fixed_as_before c.args.plan.now.0.base (g.I.ImageBytes.bytes c.args.image.now) (g.I.ImageBytes.bytes c.make.new.image) c.in_err-make.ensures.same

pub returns-clause-fixed : goal.returns-clause-fixed
returns-clause-fixed g c =
    let old = g.I.ImageBytes.bytes c.args.image.now in
    let new = g.I.ImageBytes.bytes c.make.new.image in
    let due = due_by_it c.args.plan.now.0 c.args.plan.now.1 c.args.layout.now old c.in-Step.step c.in-Step.ensures.0
    c.in-Some.update.now c.in-Step.ensures.1 c.in-Some.ensures in
    let plan = subst (λ s. IsPlan s c.args.plan.now.1) c.spec.ensures.is c.spec.ensures.plan in
    let told = subst (λ s. IsEntryOf s c.args.layout.now c.in-Step.step c.in-Some.update.now old new c.in_ok-make.ensures.made.entry)
    c.spec.ensures.is c.in_ok-make.ensures.made.told in
    fixed_stay c.args.plan.now.0 c.args.plan.now.1 c.args.layout.now old c.in-Step.step c.in-Some.update.now
    c.requires.modelled.image plan due new c.in_ok-make.ensures.made.entry told

pub returns-clause-taken : goal.returns-clause-taken
returns-clause-taken g c =
    let old = g.I.ImageBytes.bytes c.args.image.now in
    let new = g.I.ImageBytes.bytes c.make.new.image in
    let due = due_by_it c.args.plan.now.0 c.args.plan.now.1 c.args.layout.now old c.in-Step.step c.in-Step.ensures.0
    c.in-Some.update.now c.in-Step.ensures.1 c.in-Some.ensures in
    let told = subst (λ s. IsEntryOf s c.args.layout.now c.in-Step.step c.in-Some.update.now old new c.in_ok-make.ensures.made.entry)
    c.spec.ensures.is c.in_ok-make.ensures.made.told in
    record {
      entry = c.in_ok-make.ensures.made.entry;
      pushed = c.in_ok-make.ensures.made.pushed;
      made = record { step = c.in-Step.step; update = c.in-Some.update.now; due = due; made = told };
      step_is = refl;
    }

pub returns-clause-modelled : goal.returns-clause-modelled
returns-clause-modelled g c =
    let old = g.I.ImageBytes.bytes c.args.image.now in
    let new = g.I.ImageBytes.bytes c.make.new.image in
    let due = due_by_it c.args.plan.now.0 c.args.plan.now.1 c.args.layout.now old c.in-Step.step c.in-Step.ensures.0
    c.in-Some.update.now c.in-Step.ensures.1 c.in-Some.ensures in
    let plan = subst (λ s. IsPlan s c.args.plan.now.1) c.spec.ensures.is c.spec.ensures.plan in
    let told = subst (λ s. IsEntryOf s c.args.layout.now c.in-Step.step c.in-Some.update.now old new c.in_ok-make.ensures.made.entry)
    c.spec.ensures.is c.in_ok-make.ensures.made.told in
    record {
      image = image_stays c.args.plan.now.0 c.args.plan.now.1 c.args.layout.now old c.in-Step.step c.in-Some.update.now
          c.requires.modelled.image plan due new c.in_ok-make.ensures.made.entry told;
      prepared = subst (λ s. IsPreparedFor s c.args.layout.now c.renew.new.model) c.spec-2.ensures.is c.renew.ensures.prepared;
      model = subst (λ s. IsModelOf s c.args.layout.now new c.renew.new.model) c.spec-2.ensures.is c.renew.ensures.model;
    }

pub returns-clause-brings : goal.returns-clause-brings
returns-clause-brings g c =
    let old = g.I.ImageBytes.bytes c.args.image.now in
    let new = g.I.ImageBytes.bytes c.make.new.image in
    let due = due_by_it c.args.plan.now.0 c.args.plan.now.1 c.args.layout.now old c.in-Step.step c.in-Step.ensures.0
    c.in-Some.update.now c.in-Step.ensures.1 c.in-Some.ensures in
    let plan = subst (λ s. IsPlan s c.args.plan.now.1) c.spec.ensures.is c.spec.ensures.plan in
    let told = subst (λ s. IsEntryOf s c.args.layout.now c.in-Step.step c.in-Some.update.now old new c.in_ok-make.ensures.made.entry)
    c.spec.ensures.is c.in_ok-make.ensures.made.told in
    nearer c.args.plan.now.0 c.args.plan.now.1 c.args.layout.now old new c.in-Step.step c.in-Some.update.now c.in_ok-make.ensures.made.entry
    plan c.requires.modelled.image
    (image_stays c.args.plan.now.0 c.args.plan.now.1 c.args.layout.now old c.in-Step.step c.in-Some.update.now
    c.requires.modelled.image plan due new c.in_ok-make.ensures.made.entry told)
    due told

pub returns-in_err-make-clause-cursor : goal.returns-in_err-make-clause-cursor
returns-in_err-make-clause-cursor g c =
    cursor_stays c.args.plan.now.0 c.args.plan.now.1 c.args.layout.now (g.I.ImageBytes.bytes c.args.image.now)
    (g.I.ImageBytes.bytes c.make.new.image) c.args.cursor.now c.requires.cursor c.in_err-make.ensures.same

pub returns-clause-cursor : goal.returns-clause-cursor
returns-clause-cursor g c =
    let old = g.I.ImageBytes.bytes c.args.image.now in
    let new = g.I.ImageBytes.bytes c.make.new.image in
    let due = due_by_it c.args.plan.now.0 c.args.plan.now.1 c.args.layout.now old c.in-Step.step c.in-Step.ensures.0
    c.in-Some.update.now c.in-Step.ensures.1 c.in-Some.ensures in
    let plan = subst (λ s. IsPlan s c.args.plan.now.1) c.spec.ensures.is c.spec.ensures.plan in
    let told = subst (λ s. IsEntryOf s c.args.layout.now c.in-Step.step c.in-Some.update.now old new c.in_ok-make.ensures.made.entry)
    c.spec.ensures.is c.in_ok-make.ensures.made.told in
    cursor_moves c.args.plan.now.0 c.args.plan.now.1 c.args.layout.now old new c.args.cursor.now c.requires.cursor c.in-Step.step
    c.in-Some.update.now due
    (nearer c.args.plan.now.0 c.args.plan.now.1 c.args.layout.now old new c.in-Step.step c.in-Some.update.now c.in_ok-make.ensures.made.entry
    plan c.requires.modelled.image
    (image_stays c.args.plan.now.0 c.args.plan.now.1 c.args.layout.now old c.in-Step.step c.in-Some.update.now
    c.requires.modelled.image plan due new c.in_ok-make.ensures.made.entry told)
    due told)

pub returns-in_err-make-clause-rests : goal.returns-in_err-make-clause-rests
returns-in_err-make-clause-rests g c = on_err c.from_residual.result refl

pub prepare-requires-clause-typed : goal.prepare-requires-clause-typed
prepare-requires-clause-typed g c = c.requires.modelled.image.typed

pub renew-requires-clause-rules : goal.renew-requires-clause-rules
renew-requires-clause-rules g c = subst (λ s. AreResolved s c.args.layout.now c.args.rules.now) (sym c.spec-2.ensures.is) c.requires.rules

pub renew-requires-clause-backed : goal.renew-requires-clause-backed
renew-requires-clause-backed g c =
    let old = g.I.ImageBytes.bytes c.args.image.now in
    let new = g.I.ImageBytes.bytes c.make.new.image in
    let due = due_by_it c.args.plan.now.0 c.args.plan.now.1 c.args.layout.now old c.in-Step.step c.in-Step.ensures.0
    c.in-Some.update.now c.in-Step.ensures.1 c.in-Some.ensures in
    let plan = subst (λ s. IsPlan s c.args.plan.now.1) c.spec.ensures.is c.spec.ensures.plan in
    let told = subst (λ s. IsEntryOf s c.args.layout.now c.in-Step.step c.in-Some.update.now old new c.in_ok-make.ensures.made.entry)
    c.spec.ensures.is c.in_ok-make.ensures.made.told in
    subst (λ s. IfSome c.prepare.new.self.support (WasSupportFor s c.args.layout.now c.in-Some.update.now c.in-Step.step new c.args.rules.now c.args.model.now)) (sym c.spec-2.ensures.is)
    (if_backed c.args.plan.now.0 c.args.layout.now c.in-Some.update.now c.in-Step.step new c.args.rules.now c.args.model.now old c.prepare.new.self.support
    (due_left c.args.plan.now.0 c.args.plan.now.1 c.args.layout.now old new c.in-Step.step c.in-Some.update.now c.in_ok-make.ensures.made.entry plan c.requires.modelled.image due told)
    (c.prepare.ensures old c.args.model.now c.requires.backed))

pub returns-in_err-make-clause-backed : goal.returns-in_err-make-clause-backed
returns-in_err-make-clause-backed g c =
    subst (λ bytes. IfSome c.prepare.new.self.support (IsSupportFor c.args.plan.now.0 c.args.layout.now bytes c.args.rules.now c.args.model.now)) (sym c.in_err-make.ensures.same)
    (c.prepare.ensures (g.I.ImageBytes.bytes c.args.image.now) c.args.model.now c.requires.backed)

pub returns-clause-backed : goal.returns-clause-backed
returns-clause-backed g c =
    subst (λ s. IfSome c.renew.new.backing.support (IsSupportFor s c.args.layout.now (g.I.ImageBytes.bytes c.make.new.image) c.args.rules.now c.renew.new.model)) c.spec-2.ensures.is c.renew.ensures.backed
