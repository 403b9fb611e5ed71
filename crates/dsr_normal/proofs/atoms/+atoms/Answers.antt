use Rattle.std.proofs.Common.{sym, ◌++◌, ◌∙◌}
use Rattle.dsr_normal.proofs.Rows.{any_shape, every_shape, atoms_step}
use Rattle.dsr_normal.proofs.atoms.+atoms.Goals as goal

pub formula_atoms-returns-in-Any : goal.formula_atoms-returns-in-Any
formula_atoms-returns-in-Any t c =
    let e = any_shape c.args.node.now c.in-Any.parts c.deref.result.now c.in-Any.is c.deref.ensures.value in
    rw e c.parts_atoms.ensures

pub formula_atoms-returns-in-Every : goal.formula_atoms-returns-in-Every
formula_atoms-returns-in-Every t c =
    let e = every_shape c.args.node.now c.in-Every.parts c.deref-in-Every.result.now c.in-Every.is c.deref-in-Every.ensures.value in
    rw e c.parts_atoms-in-Every.ensures

pub parts_atoms-loop-part-preserved : goal.parts_atoms-loop-part-preserved
parts_atoms-loop-part-preserved t c =
    c.in_ok-append.ensures.items
    ∙ (λ i. c.loop-part.invariant i ++ c.in_ok-more.ensures i)
    ∙ sym (atoms_step c.args.parts.now c.loop-part.part-index c.part-item.result c.loop-part-test.true c.part-item.is)
