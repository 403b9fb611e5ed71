use Rattle.std.proofs.Common.{◌≡◌, drop, map}
use Rattle.dsr_layout.specs.Ranges.{range_of}
use Rattle.dsr_layout.specs.Telling.{told_of}
use Rattle.dsr_meaning.specs.Refusals.{overlaps}
use Rattle.dsr_layout.proofs.pool_checks.first_overlap.Given as goal

abbrev pub invariant-loop-i : goal.invariant-loop-i
invariant-loop-i l = told_of (overlaps l.i (map range_of (drop l.i l.ranges))) ≡ told_of (overlaps 0 (map range_of l.ranges))
