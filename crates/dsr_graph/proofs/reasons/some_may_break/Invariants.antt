use Rattle.dsr_graph_theory.specs.Breaks.{MayBreakBy}
use Rattle.dsr_graph.proofs.Firsts.{NoneBefore}
use Rattle.dsr_graph.specs.Told.{TellsExcuses}
use Rattle.dsr_graph_theory.specs.Owners.{Owner}
use Rattle.dsr_compensate.specs.Owned.{owner_of}
use Rattle.dsr_graph.proofs.reasons.some_may_break.Given as goal

-- none of the updates so far may break it
abbrev pub invariant-loop-place : goal.invariant-loop-place
invariant-loop-place l =
    (other : Owner) → TellsExcuses (owner_of l.owner) other l.excuses
    → NoneBefore (owner_of l.owner) l.judged.template (MayBreakBy (owner_of l.owner) other l.cause) l.place
