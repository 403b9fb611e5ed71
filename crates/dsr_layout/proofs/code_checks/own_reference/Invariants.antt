use Rattle.std.proofs.Common.{◌≡◌, drop}
use Rattle.dsr_meaning.specs.Lists.{each_at}
use Rattle.dsr_layout.specs.Telling.{told_of}
use Rattle.dsr_meaning.specs.Refusals.{reference_refusals}
use Rattle.dsr_layout.proofs.code_checks.own_reference.Given as goal

abbrev pub invariant-loop-i : goal.invariant-loop-i
invariant-loop-i l = told_of (each_at (λ k f. reference_refusals l.layout l.structure k f) l.i (drop l.i l.fields)) ≡ told_of (each_at (reference_refusals l.layout l.structure) 0 l.fields)
