use Rattle.dsr_compensate.proofs.Each.{EachBefore}
use Rattle.dsr_graph_theory.specs.Owners.{change_of, goal_at}
use Rattle.dsr_graph_theory.specs.Sides.{MayServe}
use Rattle.dsr_compensate.specs.Owned.{owner_of}
use Rattle.dsr_compensate.proofs.judging.may_all_serve.Given as goal

-- those so far serve
abbrev pub invariant-loop-place : goal.invariant-loop-place
invariant-loop-place l =
    EachBefore (λ n update. MayServe l.goal l.atom n (change_of (owner_of l.owner) (goal_at l.goal n) update)) l.updates l.place
