use Rattle.std.proofs.Common.{length, ap, subst, sym, ◌∙◌, arith}
use Rattle.dsr_affected.proofs.Collecting.{IsOrdering, marked_affected, ordering_begins, ordering_ends, ordering_more, ordering_same, unmarked_free}
use Rattle.dsr_affected.proofs.Marking.{there_got}
use Rattle.dsr_affected.proofs.constraints.affected_constraints.Goals as goal
use Rattle.dsr_affected.proofs.constraints.affected_constraints.Goals.{then-is_marked+in_ok-push, else-is_marked}

pub loop-number-init : goal.loop-number-init
loop-number-init c = subst (λ order. IsOrdering c.args.spec.now c.args.fields.now order 0) (sym c.new-order.ensures.items) (ordering_begins c.args.spec.now c.args.fields.now)

pub loop-number-preserved : goal.loop-number-preserved
loop-number-preserved c =
    let there = there_got c.items-constraint-items.result.now c.args.spec.now.constraints c.loop-number.number c.constraint-item.result c.items-constraint-items.ensures c.loop-number-test.true c.constraint-item.is in
    elim c.if-is_marked.branch [
      | then-is_marked+in_ok-push w ↦ rw (w.order-is, w.in_ok-push.ensures.items)
          (ordering_more c.args.spec.now c.args.fields.now c.loop-number.order.items c.loop-number.number c.loop-number.invariant c.constraint-item.result there
          (marked_affected c.args.spec.now c.args.fields.now c.marks_of-marks.result c.marks_of-marks.ensures c.constraint-item.result (sym c.is_marked.ensures ∙ w.if-is_marked.true)))
      | else-is_marked w ↦ rw w.order-is
          (ordering_same c.args.spec.now c.args.fields.now c.loop-number.order.items c.loop-number.number c.loop-number.invariant c.constraint-item.result there
          (unmarked_free c.args.spec.now c.args.fields.now c.marks_of-marks.result c.marks_of-marks.ensures c.constraint-item.result (sym c.is_marked.ensures ∙ w.if-is_marked.false)))
    ]

pub returns : goal.returns
returns c =
    let long = ap length c.items-constraint-items.ensures in
    ordering_ends c.args.spec.now c.args.fields.now c.loop-number.order.items c.loop-number.number (omega (arith, long, c.loop-number-test.false)) c.loop-number.invariant
