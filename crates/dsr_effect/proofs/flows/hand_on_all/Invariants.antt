-- What is so while the flows are gone along.
use Rattle.dsr_effect.proofs.Handing.{IsHanding}
use Rattle.dsr_effect.proofs.flows.hand_on_all.Given as goal

-- the flows so far were gone along
abbrev pub invariant-loop-flow : goal.invariant-loop-flow
invariant-loop-flow l = IsHanding l.flows l.fn.rows l.rows l.grew l.flow-index
