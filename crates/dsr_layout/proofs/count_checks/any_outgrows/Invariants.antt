use Rattle.std.proofs.Common.{◌≡◌, drop}
use Rattle.dsr_meaning.specs.Lists.{any_of}
use Rattle.dsr_meaning.specs.Refusals.{outgrows}
use Rattle.dsr_layout.proofs.count_checks.any_outgrows.Given as goal

abbrev pub invariant-loop-literal : goal.invariant-loop-literal
invariant-loop-literal l = any_of (λ x. outgrows l.spec l.layout x.atom) (drop l.literal-index l.literals) ≡ any_of (λ x. outgrows l.spec l.layout x.atom) l.literals
