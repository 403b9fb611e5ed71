use Rattle.std.proofs.Common.{◌≤◌, length, ap, subst, sym, ◌∙◌, arith}
use Rattle.dsr_affected.specs.Marking.{AreCollected}
use Rattle.dsr_affected.proofs.Collecting.{collected_begins, collected_ends, grown, rel_marked, rel_unmarked, set_marked, set_unmarked}
use Rattle.dsr_affected.proofs.symbols.affected.Goals as goal
use Rattle.dsr_affected.proofs.symbols.affected.Goals.{then-has+in_ok-push, else-has, then-has-2+in_ok-push-2, else-has-2}

pub loop-set-init : goal.loop-set-init
loop-set-init c = subst (AreCollected c.marks_of-marks.result 0 0) (sym c.new-symbols.ensures.items) (collected_begins c.marks_of-marks.result)

pub loop-set-preserved : goal.loop-set-preserved
loop-set-preserved c = elim c.if-has.branch [
  | then-has+in_ok-push w ↦ rw (w.symbols-is, w.in_ok-push.ensures.items) (set_marked c.marks_of-marks.result c.loop-set.set c.loop-set.symbols.items c.loop-set.invariant (sym c.has.ensures ∙ w.if-has.true))
  | else-has w ↦ rw w.symbols-is (set_unmarked c.marks_of-marks.result c.loop-set.set c.loop-set.symbols.items c.loop-set.invariant (sym c.has.ensures ∙ w.if-has.false))
]

pub loop-rel-init : goal.loop-rel-init
loop-rel-init c = grown c.marks_of-marks.result c.loop-set.set (length c.items.result.now) c.loop-set.symbols.items c.loop-set.auto.set-end c.loop-set-test.false c.loop-set.invariant

pub loop-rel-preserved : goal.loop-rel-preserved
loop-rel-preserved c = elim c.if-has-2.branch [
  | then-has-2+in_ok-push-2 w ↦ rw (w.symbols-is, w.in_ok-push-2.ensures.items) (rel_marked c.marks_of-marks.result (length c.items.result.now) c.loop-rel.rel c.loop-rel.symbols.items c.loop-rel.invariant (sym c.has-in-loop-rel.ensures ∙ w.if-has-2.true))
  | else-has-2 w ↦ rw w.symbols-is (rel_unmarked c.marks_of-marks.result (length c.items.result.now) c.loop-rel.rel c.loop-rel.symbols.items c.loop-rel.invariant (sym c.has-in-loop-rel.ensures ∙ w.if-has-2.false))
]

pub returns : goal.returns
returns c =
    let sets = ap length c.items.ensures in
    let rels = ap length c.items-2.ensures in
    record {
      exactly = collected_ends c.args.spec.now c.args.fields.now c.marks_of-marks.result c.requires.typed c.marks_of-marks.ensures (length c.items.result.now) c.loop-rel.rel c.loop-rel.symbols.items (omega (arith, sets)) (omega (arith, rels, c.loop-rel-test.false)) c.loop-rel.invariant;
      order = c.loop-rel.invariant.order;
    }
