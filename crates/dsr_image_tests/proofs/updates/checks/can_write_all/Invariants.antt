-- The writes so far can be made.
use Rattle.std.proofs.Common.{All, take}
use Rattle.dsr_step_theory.specs.Steps.{CanWrite}
use Rattle.dsr_image_tests.proofs.updates.checks.can_write_all.Given as goal

abbrev pub invariant-loop-write : goal.invariant-loop-write
invariant-loop-write l = All (CanWrite l.spec l.layout l.step) (take l.write-index l.writes)
