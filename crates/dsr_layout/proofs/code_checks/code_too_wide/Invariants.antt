use Rattle.std.proofs.Common.{◌≡◌, drop}
use Rattle.dsr_meaning.specs.Lists.{each_at}
use Rattle.dsr_layout.specs.Telling.{told_of}
use Rattle.dsr_meaning.specs.Refusals.{reference_refusals, code_refusals}
use Rattle.dsr_layout.proofs.code_checks.code_too_wide.Given as goal

abbrev pub invariant-loop-i : goal.invariant-loop-i
invariant-loop-i l = told_of (each_at (λ i s. each_at (reference_refusals l.layout i) 0 s.fields) l.i (drop l.i l.structures)) ≡ told_of (code_refusals l.structures l.layout)
