use Rattle.std.proofs.Common.{IsTrue}
use Rattle.dsr_placement.proofs.Each.{EachBefore}
use Rattle.dsr_placement.specs.Atoms.{IsTestedIn, truth_by}
use Rattle.dsr_plan_theory.specs.Plans.{comes_out}
use Rattle.dsr_placement.proofs.truths.World.passes.Given as goal

-- those so far come out true where they are tested
abbrev pub invariant-loop-place : goal.invariant-loop-place
invariant-loop-place l =
    EachBefore (λ n literal. IsTestedIn l.tests n → IsTrue (comes_out (truth_by l.self.atoms.now l.self.truths.now) literal)) l.conj.literals l.place
