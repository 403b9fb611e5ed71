use Rattle.std.proofs.Common.{take, map}
use Rattle.dsr_tree.specs.Trees.{pool_shape}
use Rattle.dsr_language_theory.specs.Declarations.{pool_faults}
use Rattle.dsr_meaning.specs.Lists.{each_at}
use Rattle.dsr_struct.specs.Known.{known_of}
use Rattle.dsr_names.specs.Telling.{Finds}
use Rattle.dsr_struct.proofs.lookups.Names.check_pools.Given as goal

abbrev pub invariant-loop-number : goal.invariant-loop-number
invariant-loop-number l = Finds (each_at (pool_faults (known_of l.fn.self)) 0 (map pool_shape (take l.number l.pools))) l.fn.told.fault l.told.fault
