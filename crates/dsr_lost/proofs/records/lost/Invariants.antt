use Rattle.std.proofs.Common.{◌+◌}
use Rattle.dsr_lost.specs.Lost.{AreLostBefore, start}
use Rattle.dsr_lost.proofs.records.lost.Given as goal

-- the lost slots of the pools so far are listed
abbrev pub invariant-loop-pool : goal.invariant-loop-pool
invariant-loop-pool g l = AreLostBefore l.spec l.layout l.model l.lost.items (start (l.pool + 1))
