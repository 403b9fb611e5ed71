use Rattle.std.proofs.Common.{◌≡◌, ◌+◌, suc, drop, map}
use Rattle.dsr_meaning.specs.Lists.{each_at}
use Rattle.dsr_layout.specs.Telling.{told_of}
use Rattle.dsr_layout.specs.Ranges.{range_of}
use Rattle.dsr_meaning.specs.Refusals.{Overlap, refused_when, share_byte}
use Rattle.dsr_layout.proofs.pool_checks.overlap_with.Given as goal

abbrev pub invariant-loop-i : goal.invariant-loop-i
invariant-loop-i l = told_of (each_at (λ q r. refused_when (share_byte (range_of l.range) (range_of r)) (Overlap l.number q)) (l.number + 1 + l.i) (drop l.i l.later)) ≡ told_of (each_at (λ q r. refused_when (share_byte (range_of l.range) r) (Overlap l.number q)) (suc l.number) (map range_of l.later))
