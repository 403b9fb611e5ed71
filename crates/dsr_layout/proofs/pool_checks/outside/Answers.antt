use Rattle.std.proofs.Common.{◌≡◌, ◌≤◌, ◌+◌, ℕ, false, nat_lt, refl, ap, ◌∙◌, arith}
use Rattle.std.proofs.lemmas.Bool.Decides.{nat_tests}
use Rattle.dsr_layout.proofs.Items.{item_is}
use Rattle.dsr_layout.proofs.Looking.{goes_on, none_where}
use Rattle.dsr_layout.proofs.pool_checks.outside.Goals as goal

not_below : (a b : ℕ) → b ≤ a → false ≡ nat_lt a b
not_below a b le = grind (arith, nat_tests)

pub loop-i-preserved : goal.loop-i-preserved
loop-i-preserved c =
    goes_on _ c.items-pool-items.result.now c.loop-i.i _ (c.loop-i.i + 1) _ c.loop-i-test.true (item_is c.items-pool-items.result.now c.loop-i.i _ c.loop-i-test.true) refl
    (none_where _ (not_below _ _ c.if-layout-pool_end.false ∙ ap (nat_lt c.args.layout.now.length) c.pool_end.ensures))
    ∙ c.loop-i.invariant
