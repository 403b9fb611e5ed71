use Rattle.std.proofs.Common.{refl, ◌∙◌}
use Rattle.dsr_layout.proofs.Looking.{goes_on, is_told, told_where, none_where}
use Rattle.dsr_layout.proofs.count_checks.count_too_wide.Goals as goal

pub returns-then-constraint_outgrows : goal.returns-then-constraint_outgrows
returns-then-constraint_outgrows c =
    is_told _ c.items-constraint-items.result.now c.loop-i.i c.constraint-item.result c.loop-i.i c.loop-i-test.true c.constraint-item.is refl (told_where _ (rw c.items.ensures at c.if-constraint_outgrows.ensures))
    ∙ c.loop-i.invariant

pub loop-i-preserved : goal.loop-i-preserved
loop-i-preserved c =
    goes_on _ c.items-constraint-items.result.now c.loop-i.i c.constraint-item.result c.loop-i.i _ c.loop-i-test.true c.constraint-item.is refl (none_where _ (rw c.items.ensures at c.if-constraint_outgrows.ensures))
    ∙ c.loop-i.invariant
