use Rattle.std.proofs.Common.{◌∙◌}
use Rattle.dsr_normal.specs.Sizes.{added, multiplied}
use Rattle.dsr_normal.proofs.Rows.{any_shape, every_shape}
use Rattle.dsr_normal.proofs.Steps.{any_size_step, every_size_step}
use Rattle.dsr_normal.proofs.sizes.+sizes.Goals as goal

pub formula_size-returns-then-negated : goal.formula_size-returns-then-negated
formula_size-returns-then-negated t c =
    let e = any_shape c.args.node.now c.in-Any.parts c.deref.result.now c.in-Any.is c.deref.ensures.value in
    let h = rw c.if-negated.true at c.every_size.ensures in
    rw (e, c.if-negated.true) h

pub formula_size-returns-else-negated : goal.formula_size-returns-else-negated
formula_size-returns-else-negated t c =
    let e = any_shape c.args.node.now c.in-Any.parts c.deref-else-negated.result.now c.in-Any.is c.deref-else-negated.ensures.value in
    let h = rw c.if-negated.false at c.any_size.ensures in
    rw (e, c.if-negated.false) h

pub formula_size-returns-then-negated-2 : goal.formula_size-returns-then-negated-2
formula_size-returns-then-negated-2 t c =
    let e = every_shape c.args.node.now c.in-Every.parts c.deref-then-negated-2.result.now c.in-Every.is c.deref-then-negated-2.ensures.value in
    let h = rw c.if-negated-2.true at c.any_size-then-negated-2.ensures in
    rw (e, c.if-negated-2.true) h

pub formula_size-returns-else-negated-2 : goal.formula_size-returns-else-negated-2
formula_size-returns-else-negated-2 t c =
    let e = every_shape c.args.node.now c.in-Every.parts c.deref-else-negated-2.result.now c.in-Every.is c.deref-else-negated-2.ensures.value in
    let h = rw c.if-negated-2.false at c.every_size-else-negated-2.ensures in
    rw (e, c.if-negated-2.false) h

pub any_size-loop-part-preserved : goal.any_size-loop-part-preserved
any_size-loop-part-preserved t c =
    c.plus-size.ensures
    ∙ (λ i. added (c.loop-part.invariant i) (c.formula_size.ensures i))
    ∙ any_size_step c.args.negated c.args.given c.args.parts.now c.loop-part.part-index c.part-item.result c.loop-part-test.true c.part-item.is

pub every_size-loop-part-preserved : goal.every_size-loop-part-preserved
every_size-loop-part-preserved t c =
    c.times-size.ensures
    ∙ (λ i. multiplied (c.loop-part.invariant i) (c.formula_size.ensures i))
    ∙ every_size_step c.args.negated c.args.given c.args.parts.now c.loop-part.part-index c.part-item.result c.loop-part-test.true c.part-item.is
