use Rattle.std.proofs.Common.{◌∙◌}
use Rattle.dsr_tree.specs.Trees.{pool_shape}
use Rattle.dsr_language_theory.specs.Tables.{typed_pool}
use Rattle.dsr_struct.specs.Known.{known_of}
use Rattle.dsr_struct.proofs.Mapped.{all_shaped, made_next}
use Rattle.dsr_struct.proofs.lookups.Names.typed_pools.Goals as goal

pub loop-pool-preserved : goal.loop-pool-preserved
loop-pool-preserved c = made_next pool_shape (typed_pool (known_of c.args.self.now)) c.items-pool-items.result.now c.loop-pool.pool-index c.pool-item.result c.loop-pool.typed.items c.push.new.self.items c.in_ok-entry.entry c.loop-pool-test.true c.pool-item.is c.loop-pool.invariant c.in_ok-push.ensures.items c.in_ok-entry.ensures

pub returns : goal.returns
returns c = c.new.ensures ∙ all_shaped pool_shape (typed_pool (known_of c.args.self.now)) c.args.self.now.tree.now.pools _ c.items-pool-items.ensures c.loop-pool.pool-index c.loop-pool-test.false c.loop-pool.invariant
