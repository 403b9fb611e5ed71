-- That exactly the avoided sets are marked.
use Rattle.std.proofs.Common.{◌<◌, MatchBool, subst}
use Rattle.dsr_effect.specs.AvoidedMarks.{IsClosed, unmarked}
use Rattle.dsr_effect.proofs.Avoiding.{exactly_avoided, named_sound, names_still}
use Rattle.dsr_effect.proofs.avoided.avoided_sets.Goals as goal

pub loop-init : goal.loop-init
loop-init c = (
  named_sound c.args.spec.now c.args.avoid.now c.mark_named-marks.result c.mark_named-marks.ensures.sound,
  c.mark_named-marks.ensures.all,
)

pub loop-smaller : goal.loop-smaller
loop-smaller c = subst (λ b. MatchBool b (unmarked c.mark_given.new.marks < unmarked c.loop.marks) (IsClosed c.args.spec.now c.mark_given.new.marks)) c.loop-test.true c.mark_given.ensures.progress

pub loop-preserved : goal.loop-preserved
loop-preserved c = (
  c.mark_given.ensures.sound c.args.avoid.now c.loop.invariant.0,
  names_still c.args.avoid.now c.loop.marks c.mark_given.new.marks c.mark_given.ensures.kept c.loop.invariant.1,
)

pub returns : goal.returns
returns c =
    exactly_avoided c.args.spec.now c.args.avoid.now c.mark_given.new.marks c.requires.typed
    (c.mark_given.ensures.sound c.args.avoid.now c.loop.invariant.0)
    (names_still c.args.avoid.now c.loop.marks c.mark_given.new.marks c.mark_given.ensures.kept c.loop.invariant.1)
    (subst (λ b. MatchBool b (unmarked c.mark_given.new.marks < unmarked c.loop.marks) (IsClosed c.args.spec.now c.mark_given.new.marks)) c.loop-test.false c.mark_given.ensures.progress)
