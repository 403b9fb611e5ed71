use Rattle.std.proofs.Common.{◌≡◌, ◌+◌, nat_eq, ◌||◌, drop}
use Rattle.dsr_meaning.specs.Lists.{each_at}
use Rattle.dsr_layout.specs.Telling.{told_of}
use Rattle.dsr_meaning.specs.Refusals.{Zero, refused_when, zero_refusals}
use Rattle.dsr_layout.proofs.pool_checks.zero.Given as goal

abbrev pub invariant-loop-i : goal.invariant-loop-i
invariant-loop-i l = told_of (each_at (λ p n. refused_when (nat_eq n.step 0 || nat_eq n.slot 0) (Zero p)) (l.i + 1) (drop l.i l.pool-items)) ≡ told_of (zero_refusals l.layout)
