use Rattle.std.proofs.Common.{◌≡◌, ◌∙◌, Some, option_map, slice_get, subst}
use Rattle.dsr_repair.proofs.Pools.{set_pool_is}
use Rattle.dsr_model.specs.Sets.{Sets}
use Rattle.dsr_repair.proofs.cursors.is_of_set.Goals as goal

pub returns-in-Some : goal.returns-in-Some
returns-in-Some c = λ yes.
    c.is_of_pool.ensures yes
    ∙ set_pool_is (slice_get c.args.model.now.members.sets c.args.set) c.in-Some.pool
    (subst (λ (m : Sets). Some c.in-Some.pool ≡ option_map (λ s. s.pool) (slice_get m.sets c.args.set))
    c.members.ensures.members c.in-Some.ensures.is)
