use Rattle.std.proofs.Common.{◌≡◌, ◌+◌, nat_lt, drop}
use Rattle.dsr_meaning.specs.Lists.{each_at}
use Rattle.dsr_layout.specs.Telling.{told_of}
use Rattle.dsr_meaning.specs.Layouts.{pool_end}
use Rattle.dsr_meaning.specs.Refusals.{Outside, refused_when, outside_refusals}
use Rattle.dsr_layout.proofs.pool_checks.outside.Given as goal

abbrev pub invariant-loop-i : goal.invariant-loop-i
invariant-loop-i l = told_of (each_at (λ p n. refused_when (nat_lt l.layout.length (pool_end n)) (Outside p)) (l.i + 1) (drop l.i l.pool-items)) ≡ told_of (outside_refusals l.layout)
