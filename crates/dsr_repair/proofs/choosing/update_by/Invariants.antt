-- No update before this one takes away what the rule gives.
use Rattle.dsr_repair.proofs.Gone.{EachBefore}
use Rattle.dsr_repair.specs.Chosen.{IsUpdateBy}
use Rattle.dsr_repair.proofs.choosing.update_by.Given as goal

abbrev pub invariant-loop-place : goal.invariant-loop-place
invariant-loop-place l = EachBefore (λ n update. IsUpdateBy l.template l.rule n update → ⊥) l.template.updates l.place
