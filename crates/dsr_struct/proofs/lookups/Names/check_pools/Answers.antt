use Rattle.dsr_tree.specs.Trees.{pool_shape}
use Rattle.dsr_language_theory.specs.Declarations.{pool_faults}
use Rattle.dsr_struct.specs.Known.{known_of}
use Rattle.dsr_names.proofs.Finding.{finds_next}
use Rattle.dsr_struct.proofs.lookups.Names.check_pools.Goals as goal

pub loop-number-preserved : goal.loop-number-preserved
loop-number-preserved c = finds_next (pool_faults (known_of c.args.self.now)) pool_shape c.args.pools.now c.loop-number.number c.index-pools-number.result c.loop-number-test.true c.index-pools-number.is c.loop-number.invariant c.check_pool.ensures
