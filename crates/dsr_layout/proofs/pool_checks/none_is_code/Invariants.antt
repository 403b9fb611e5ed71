use Rattle.std.proofs.Common.{◌≡◌, ◌+◌, drop}
use Rattle.dsr_meaning.specs.Lists.{each_at}
use Rattle.dsr_layout.specs.Telling.{told_of}
use Rattle.dsr_meaning.specs.Refusals.{NoneIsCode, refused_when, is_code_below, none_refusals}
use Rattle.dsr_layout.proofs.pool_checks.none_is_code.Given as goal

abbrev pub invariant-loop-i : goal.invariant-loop-i
invariant-loop-i l = told_of (each_at (λ p n. refused_when (is_code_below n n.none n.count) (NoneIsCode p)) (l.i + 1) (drop l.i l.pool-items)) ≡ told_of (none_refusals l.layout)
