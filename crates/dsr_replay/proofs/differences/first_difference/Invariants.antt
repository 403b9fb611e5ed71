-- The bytes that were passed are the same.
use Rattle.std.proofs.Common.{◌≡◌, take}
use Rattle.dsr_replay.proofs.differences.first_difference.Given as goal

abbrev pub invariant-loop-place : goal.invariant-loop-place
invariant-loop-place g l = take l.place l.bytes ≡ take l.place (g.I.ImageBytes.bytes l.image)
