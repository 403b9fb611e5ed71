use Rattle.dsr_compensate.proofs.Each.{EachBefore}
use Rattle.dsr_graph_theory.specs.Owners.{change_of, goal_at}
use Rattle.dsr_graph_theory.specs.Sides.{MayBeMade}
use Rattle.dsr_compensate.specs.Owned.{owner_of}
use Rattle.dsr_compensate.proofs.judging.may_all_be_made.Given as goal

-- those so far can be made
abbrev pub invariant-loop-update : goal.invariant-loop-update
invariant-loop-update l =
    EachBefore (λ n update. MayBeMade (change_of (owner_of l.owner) (goal_at l.template.goal n) update)) l.template.updates l.update-index
