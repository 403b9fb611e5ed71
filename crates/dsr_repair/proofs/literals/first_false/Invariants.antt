-- No literal before this one has a template and is false.
use Rattle.dsr_repair.proofs.Gone.{EachBefore}
use Rattle.dsr_repair.specs.Literals.{IsFalseAt}
use Rattle.dsr_ir.specs.declared.updates.Template.{Template}
use Rattle.dsr_model.specs.Facts.{IsInModel}
use Rattle.dsr_repair.proofs.literals.first_false.Given as goal

abbrev pub invariant-loop-place : goal.invariant-loop-place
invariant-loop-place l =
    EachBefore (λ n its. (by : Template) → IsFalseAt (IsInModel l.model) l.binding l.conj.literals l.ways n its by → ⊥)
    l.conj.literals l.place
