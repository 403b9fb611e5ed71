use Rattle.std.proofs.Common.{◌+◌, refl, ◌∙◌}
use Rattle.dsr_layout.proofs.Looking.{goes_on, is_none, is_told, told_either}
use Rattle.dsr_layout.proofs.pool_checks.subtype.Goals as goal

pub returns-then-is_some : goal.returns-then-is_some
returns-then-is_some c =
    is_told _ c.args.pools.now c.loop-i.i c.index-pools-i.result (c.loop-i.i + 1) c.loop-i-test.true c.index-pools-i.is c.if-is_some.ensures (told_either _ _ c.or-fault.ensures c.view-own.ensures c.set_view.ensures)
    ∙ c.loop-i.invariant

pub loop-i-preserved : goal.loop-i-preserved
loop-i-preserved c =
    goes_on _ c.args.pools.now c.loop-i.i c.index-pools-i.result (c.loop-i.i + 1) _ c.loop-i-test.true c.index-pools-i.is refl (is_none c.if-is_some.ensures ∙ told_either _ _ c.or-fault.ensures c.view-own.ensures c.set_view.ensures)
    ∙ c.loop-i.invariant
