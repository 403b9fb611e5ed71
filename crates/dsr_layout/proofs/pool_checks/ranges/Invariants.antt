use Rattle.std.proofs.Common.{◌≡◌, ◌∷◌, take, map}
use Rattle.dsr_layout.specs.Ranges.{range_of}
use Rattle.dsr_meaning.specs.Refusals.{pool_range}
use Rattle.dsr_layout.proofs.pool_checks.ranges.Given as goal

abbrev pub invariant-loop-pool : goal.invariant-loop-pool
invariant-loop-pool l = map range_of l.ranges.items ≡ record { first = 0; behind = l.head } ∷ map pool_range (take l.pool-index l.pools)
