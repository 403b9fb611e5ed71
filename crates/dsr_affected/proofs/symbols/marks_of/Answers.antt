use Rattle.std.proofs.Common.{◌<◌, subst, sym}
use Rattle.dsr_affected.proofs.Marking.{IsMarking, marking_begins, marking_ends, marking_fewer, marking_more, open_marks}
use Rattle.dsr_affected.proofs.symbols.marks_of.Goals as goal

pub loop-symbol-init : goal.loop-symbol-init
loop-symbol-init c = marking_begins c.args.spec.now c.args.fields.now c.none-marks.result c.none-marks.ensures.sets c.none-marks.ensures.rels

pub loop-symbol-smaller : goal.loop-symbol-smaller
loop-symbol-smaller c =
    subst (λ marks. open_marks marks < open_marks c.loop-symbol.marks) (sym c.add.ensures)
    (marking_fewer c.args.spec.now c.args.fields.now c.loop-symbol.marks c.loop-symbol.invariant c.in-Some.symbol c.requires.typed c.in-Some.ensures)

pub loop-symbol-preserved : goal.loop-symbol-preserved
loop-symbol-preserved c =
    subst (IsMarking c.args.spec.now c.args.fields.now) (sym c.add.ensures)
    (marking_more c.args.spec.now c.args.fields.now c.loop-symbol.marks c.loop-symbol.invariant c.in-Some.symbol c.in-Some.ensures)

pub returns : goal.returns
returns c = marking_ends c.args.spec.now c.args.fields.now c.loop-symbol.marks c.loop-symbol.invariant c.in_default.ensures
