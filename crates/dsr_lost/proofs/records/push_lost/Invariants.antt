use Rattle.dsr_lost.specs.Lost.{AreLostBefore}
use Rattle.dsr_lost.proofs.records.push_lost.Given as goal

-- the lost slots so far are listed
abbrev pub invariant-loop-slot : goal.invariant-loop-slot
invariant-loop-slot l = AreLostBefore l.spec l.layout l.model l.lost.items (record { pool = l.pool; slot = l.slot })
