use Rattle.std.proofs.Common.{◌≡◌, map, take}
use Rattle.dsr_tree.specs.Trees.{pool_shape}
use Rattle.dsr_language_theory.specs.Tables.{typed_pool}
use Rattle.dsr_struct.specs.Known.{known_of}
use Rattle.dsr_struct.proofs.lookups.Names.typed_pools.Given as goal

abbrev pub invariant-loop-pool : goal.invariant-loop-pool
invariant-loop-pool l = l.typed.items ≡ map (typed_pool (known_of l.fn.self)) (map pool_shape (take l.pool-index l.pool-items))
