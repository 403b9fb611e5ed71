-- Each write is asked, and none was found that names a fixed field.
use Rattle.std.proofs.Common.{All, subst}
use Rattle.std.proofs.lemmas.List.{take_all}
use Rattle.std.proofs.lemmas.List.Elements.{All-more}
use Rattle.dsr_step_theory.specs.Images.{IsFree}
use Rattle.dsr_image_tests.proofs.updates.checks.are_free.Goals as goal

pub loop-write-preserved : goal.loop-write-preserved
loop-write-preserved c =
    All-more (IsFree c.args.spec.now) c.args.writes.now
    c.loop-write.write-index _ c.loop-write-test.true c.loop-write.invariant c.if-not-is_free.ensures

pub returns : goal.returns
returns c =
    subst (All (IsFree c.args.spec.now))
    (take_all c.loop-write.write-index c.args.writes.now c.loop-write-test.false) c.loop-write.invariant
