-- Each tested literal before this one is true.
use Rattle.std.proofs.Common.{◌≡◌, Some, slice_get}
use Rattle.dsr_repair.proofs.Gone.{EachBefore}
use Rattle.dsr_meaning.specs.Truth.{LiteralHolds}
use Rattle.dsr_model.specs.Facts.{IsInModel}
use Rattle.dsr_plan_theory.specs.declared.choices.Way.TheVariants.{Test}
use Rattle.dsr_repair.proofs.literals.passes.Given as goal

abbrev pub invariant-loop-place : goal.invariant-loop-place
invariant-loop-place l =
    EachBefore (λ n its. slice_get l.ways n ≡ Some Test → LiteralHolds (IsInModel l.model) l.binding its)
    l.conj.literals l.place
