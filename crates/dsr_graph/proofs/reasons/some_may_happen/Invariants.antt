use Rattle.dsr_graph_theory.specs.Excuses.{MayHappen}
use Rattle.dsr_graph.proofs.Firsts.{NoneBefore}
use Rattle.dsr_compensate.specs.Owned.{owner_of}
use Rattle.dsr_graph.proofs.reasons.some_may_happen.Given as goal

-- none of the updates so far may do so
abbrev pub invariant-loop-effect : goal.invariant-loop-effect
invariant-loop-effect l = NoneBefore (owner_of l.owner) l.judged.template (λ c. MayHappen c l.reason) l.effect-index
