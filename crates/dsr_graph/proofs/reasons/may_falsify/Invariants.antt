use Rattle.std.proofs.Common.{take}
use Rattle.dsr_graph_theory.specs.Breaks.{SomeUpdate}
use Rattle.dsr_graph_theory.specs.Excuses.{MayHappen}
use Rattle.dsr_effect.proofs.Guards.{NoneIn}
use Rattle.dsr_compensate.specs.Owned.{owner_of}
use Rattle.dsr_graph.proofs.reasons.may_falsify.Given as goal

-- none of the causes so far may happen
abbrev pub invariant-loop-cause : goal.invariant-loop-cause
invariant-loop-cause l =
    NoneIn (λ cause. SomeUpdate (owner_of l.owner) l.judged.template (λ c. MayHappen c cause.reason)) (take l.cause-index l.causes)
