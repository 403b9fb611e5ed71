use Rattle.dsr_placement.proofs.Each.{EachBefore}
use Rattle.dsr_placement.specs.Atoms.{IsTested, truth_by}
use Rattle.dsr_plan_theory.specs.Plans.{PassesTests}
use Rattle.dsr_placement.proofs.truths.World.some_passes.Given as goal

-- none of those so far passes
abbrev pub invariant-loop-number : goal.invariant-loop-number
invariant-loop-number l =
    EachBefore (λ n conj. PassesTests (IsTested l.tests n) (truth_by l.self.atoms.now l.self.truths.now) conj → ⊥) l.constraint.conjs l.number
