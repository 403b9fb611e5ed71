use Rattle.std.proofs.Common.{sym, ap, ◌++◌, ◌∙◌}
use Rattle.dsr_language_theory.specs.NormalForms.{joined}
use Rattle.dsr_normal.specs.Literals.{literals_of}
use Rattle.dsr_normal.proofs.Conjunctions.{literals_append}
use Rattle.dsr_normal.proofs.Rows.{any_shape, every_shape, any_step, every_step}
use Rattle.dsr_normal.proofs.building.+building.Goals as goal

pub formula_conjs-returns-then-negated : goal.formula_conjs-returns-then-negated
formula_conjs-returns-then-negated t c =
    let e = any_shape c.args.node.now c.in-Any.parts c.deref.result.now c.in-Any.is c.deref.ensures.value in
    let h = rw c.if-negated.true at c.every_conjs.ensures in
    rw (e, c.if-negated.true) h

pub formula_conjs-returns-else-negated : goal.formula_conjs-returns-else-negated
formula_conjs-returns-else-negated t c =
    let e = any_shape c.args.node.now c.in-Any.parts c.deref-else-negated.result.now c.in-Any.is c.deref-else-negated.ensures.value in
    let h = rw c.if-negated.false at c.any_conjs.ensures in
    rw (e, c.if-negated.false) h

pub formula_conjs-returns-then-negated-2 : goal.formula_conjs-returns-then-negated-2
formula_conjs-returns-then-negated-2 t c =
    let e = every_shape c.args.node.now c.in-Every.parts c.deref-then-negated-2.result.now c.in-Every.is c.deref-then-negated-2.ensures.value in
    let h = rw c.if-negated-2.true at c.any_conjs-then-negated-2.ensures in
    rw (e, c.if-negated-2.true) h

pub formula_conjs-returns-else-negated-2 : goal.formula_conjs-returns-else-negated-2
formula_conjs-returns-else-negated-2 t c =
    let e = every_shape c.args.node.now c.in-Every.parts c.deref-else-negated-2.result.now c.in-Every.is c.deref-else-negated-2.ensures.value in
    let h = rw c.if-negated-2.false at c.every_conjs-else-negated-2.ensures in
    rw (e, c.if-negated-2.false) h

pub any_conjs-loop-part-preserved : goal.any_conjs-loop-part-preserved
any_conjs-loop-part-preserved t c =
    ap literals_of c.in_ok-append.ensures.items
    ∙ literals_append _ _
    ∙ (λ i. c.loop-part.invariant i ++ c.in_ok-more.ensures i)
    ∙ sym (any_step c.args.negated c.args.given c.args.parts.now c.loop-part.part-index c.part-item.result c.loop-part-test.true c.part-item.is)

pub every_conjs-loop-part-preserved : goal.every_conjs-loop-part-preserved
every_conjs-loop-part-preserved t c =
    c.in_ok-conjs-2.ensures
    ∙ (λ i. joined (literals_of (c.deref.ensures.value i)) (literals_of (c.deref-in-loop-part.ensures.value i)))
    ∙ (λ i. joined (c.loop-part.invariant i) (c.in_ok-right.ensures i))
    ∙ sym (every_step c.args.negated c.args.given c.args.parts.now c.loop-part.part-index c.part-item.result c.loop-part-test.true c.part-item.is)
