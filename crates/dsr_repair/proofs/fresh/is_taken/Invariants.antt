-- The record is a member of no set before this one.
use Rattle.dsr_repair.proofs.Gone.{EachBefore}
use Rattle.dsr_ir.specs.declared.tuples.Fact.TheVariants.{Member}
use Rattle.dsr_model.specs.Facts.{IsInModel}
use Rattle.dsr_repair.proofs.fresh.is_taken.Given as goal

abbrev pub invariant-loop-set : goal.invariant-loop-set
invariant-loop-set l = EachBefore (λ n set. IsInModel l.model (Member set l.elem) → ⊥) l.sets l.set-index
