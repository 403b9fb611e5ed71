use Rattle.std.proofs.Common.{◌≤◌, ◌∙◌, length, subst, sym}
use Rattle.dsr_meaning.specs.Typed.{IsTyped}
use Rattle.dsr_command_image.proofs.Ended.{image_of}
use Rattle.dsr_command_trial.proofs.Short.{trial_short}
use Rattle.dsr_command_trial.proofs.Tried.{trial_unlaid}
use Rattle.dsr_command_trial.proofs.trials.try_plan.Goals as goal

pub laid_out-requires-clause-typed : goal.laid_out-requires-clause-typed
laid_out-requires-clause-typed c = subst IsTyped (sym c.spec-spec.ensures.is) c.requires.typed

pub laid_out-requires-clause-small : goal.laid_out-requires-clause-small
laid_out-requires-clause-small c =
    subst (λ bytes. length bytes ≤ 67108864) (sym (c.deref.ensures.value ∙ c.in_ok-image.ensures))
    (trial_short c.args.number c.ranges.number.fits)

pub try_image-requires-clause-image : goal.try_image-requires-clause-image
try_image-requires-clause-image c =
    image_of c.args.plan.now.0 c.args.plan.now.1 c.in_ok-image.image.items c.spec-spec.result.now c.deref.result.now c.in-Ok.layout
    c.spec-spec.ensures.is c.deref.ensures.value c.in-Ok.ensures.image

pub returns-in-Err : goal.returns-in-Err
returns-in-Err c =
    trial_unlaid c.args.number c.args.plan.now.0 c.requires.meant c.spec-spec.result.now c.deref.result.now
    c.in-Err.fault c.layout_refused.result c.spec-spec.ensures.is (c.deref.ensures.value ∙ c.in_ok-image.ensures)
    c.in-Err.ensures.refused c.layout_refused.ensures.told c.layout_refused.ensures.known
