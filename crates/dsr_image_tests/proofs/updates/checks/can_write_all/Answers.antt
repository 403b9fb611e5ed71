-- Each write is asked, and none was found that can't be made.
use Rattle.std.proofs.Common.{All, subst}
use Rattle.std.proofs.lemmas.List.{take_all}
use Rattle.std.proofs.lemmas.List.Elements.{All-more}
use Rattle.dsr_step_theory.specs.Steps.{CanWrite}
use Rattle.dsr_image_tests.proofs.updates.checks.can_write_all.Goals as goal

pub loop-write-preserved : goal.loop-write-preserved
loop-write-preserved c =
    All-more (CanWrite c.args.spec.now c.args.layout.now c.args.step.now) c.args.writes.now
    c.loop-write.write-index _ c.loop-write-test.true c.loop-write.invariant c.if-not-can_write.ensures

pub returns : goal.returns
returns c =
    subst (All (CanWrite c.args.spec.now c.args.layout.now c.args.step.now))
    (take_all c.loop-write.write-index c.args.writes.now c.loop-write-test.false) c.loop-write.invariant
