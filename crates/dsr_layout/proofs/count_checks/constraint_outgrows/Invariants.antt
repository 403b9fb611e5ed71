use Rattle.std.proofs.Common.{◌≡◌, drop}
use Rattle.dsr_meaning.specs.Lists.{any_of}
use Rattle.dsr_meaning.specs.Refusals.{outgrows}
use Rattle.dsr_layout.proofs.count_checks.constraint_outgrows.Given as goal

abbrev pub invariant-loop-conj : goal.invariant-loop-conj
invariant-loop-conj l = any_of (λ conj. any_of (λ x. outgrows l.spec l.layout x.atom) conj.literals) (drop l.conj-index l.conjs) ≡ any_of (λ conj. any_of (λ x. outgrows l.spec l.layout x.atom) conj.literals) l.conjs
