use Rattle.std.proofs.Common.{◌≡◌, ◌+◌, Some, All, take, drop, not, false}
use Rattle.std.specs.Option.{option_map_or}
use Rattle.dsr_meaning.specs.Lists.{each_at}
use Rattle.dsr_meaning.specs.Layouts.{collect_at, pool_of}
use Rattle.dsr_meaning.specs.Refusals.{Arith, refused_when, is_computable, value_refusals}
use Rattle.dsr_layout.specs.Pools.{IsComputable}
use Rattle.dsr_layout.specs.Tables.{known, size_in}
use Rattle.dsr_layout.specs.Telling.{told_of}
use Rattle.dsr_layout.proofs.pools.pools_of.Given as goal

abbrev pub invariant-loop-pool : goal.invariant-loop-pool
invariant-loop-pool l =
    (collect_at (λ _ p. pool_of (known l.fixed) (size_in l.ends) p) 1 (take l.pool-index l.pools) ≡ Some l.numbers.items)
    × All IsComputable l.numbers.items
    × (told_of (each_at (λ _ p. refused_when (not (option_map_or is_computable (pool_of (known l.fixed) (size_in l.ends) p) false)) Arith) (l.pool-index + 1) (drop l.pool-index l.pools)) ≡ told_of (value_refusals (known l.fixed) (size_in l.ends) l.pools))
