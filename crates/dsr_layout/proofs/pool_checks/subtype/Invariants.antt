use Rattle.std.proofs.Common.{◌≡◌, ◌+◌, ◌++◌, drop}
use Rattle.dsr_meaning.specs.Lists.{each_at}
use Rattle.dsr_layout.specs.Tables.{size_in}
use Rattle.dsr_layout.specs.Telling.{told_of}
use Rattle.dsr_meaning.specs.Refusals.{view_refusals, set_refusals, subtype_refusals}
use Rattle.dsr_layout.proofs.pool_checks.subtype.Given as goal

abbrev pub invariant-loop-i : goal.invariant-loop-i
invariant-loop-i l = told_of (each_at (λ p d. view_refusals (size_in l.ends) l.layout p d.structure ++ set_refusals (size_in l.ends) l.layout p l.sets) (l.i + 1) (drop l.i l.pools)) ≡ told_of (subtype_refusals (size_in l.ends) l.sets l.pools l.layout)
