-- The writes so far name no fixed field.
use Rattle.std.proofs.Common.{All, take}
use Rattle.dsr_step_theory.specs.Images.{IsFree}
use Rattle.dsr_image_tests.proofs.updates.checks.are_free.Given as goal

abbrev pub invariant-loop-write : goal.invariant-loop-write
invariant-loop-write l = All (IsFree l.spec) (take l.write-index l.writes)
