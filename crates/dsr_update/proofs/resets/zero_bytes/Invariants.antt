-- The bytes that are 0 already.
use Rattle.std.proofs.Common.{◌+◌, ◌-◌}
use Rattle.dsr_step_theory.specs.Resets.{zeros}
use Rattle.dsr_update.proofs.Putting.{IsPutting}
use Rattle.dsr_update.proofs.resets.zero_bytes.Given as goal

-- the bytes so far became 0
abbrev pub invariant-loop-byte : goal.invariant-loop-byte
invariant-loop-byte g l =
    IsPutting (zeros l.at l.count) (zeros l.byte (l.at + l.count - l.byte)) (g.I.ImageBytes.bytes l.fn.image) (g.I.ImageBytes.bytes l.image)
    (g.I.ImageBytes.claimed l.fn.image) (g.I.ImageBytes.claimed l.image)
