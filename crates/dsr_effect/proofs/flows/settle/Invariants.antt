-- What is so before each round, and how many tags are missing.
use Rattle.dsr_effect.specs.Settling.{AreHandedOn, AreKept, missing}
use Rattle.dsr_effect.proofs.flows.settle.Given as goal

-- what is there is handed on, and nothing is gone
abbrev pub invariant-loop : goal.invariant-loop
invariant-loop l = AreHandedOn l.flows l.fn.rows l.rows × AreKept l.fn.rows l.rows

abbrev pub decreases-loop : goal.decreases-loop
decreases-loop l = missing l.rows
