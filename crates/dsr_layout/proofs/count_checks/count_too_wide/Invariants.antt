use Rattle.std.proofs.Common.{◌≡◌, drop}
use Rattle.dsr_meaning.specs.Lists.{each_at}
use Rattle.dsr_layout.specs.Telling.{told_of}
use Rattle.dsr_meaning.specs.Refusals.{CountTooWide, refused_when, constraint_outgrows, count_refusals}
use Rattle.dsr_layout.proofs.count_checks.count_too_wide.Given as goal

abbrev pub invariant-loop-i : goal.invariant-loop-i
invariant-loop-i l = told_of (each_at (λ k c. refused_when (constraint_outgrows l.spec l.layout c) (CountTooWide k)) l.i (drop l.i l.constraint-items)) ≡ told_of (count_refusals l.spec l.layout)
