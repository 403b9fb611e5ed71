use Rattle.dsr_graph_theory.specs.Breaks.{MayBreakBy, SomeUpdate}
use Rattle.dsr_graph.proofs.Once.{IsFoundBehind}
use Rattle.dsr_graph.specs.Told.{TellsExcuses}
use Rattle.dsr_graph_theory.specs.Owners.{Owner}
use Rattle.dsr_compensate.specs.Owned.{owner_of}
use Rattle.dsr_graph.proofs.reasons.first_reason.Given as goal

-- what is found behind holds of all
abbrev pub invariant-loop-cause : goal.invariant-loop-cause
invariant-loop-cause l =
    (other : Owner) → TellsExcuses (owner_of l.owner) other l.excuses
    → IsFoundBehind (λ cause. SomeUpdate (owner_of l.owner) l.judged.template (MayBreakBy (owner_of l.owner) other cause)) l.causes l.cause-index
