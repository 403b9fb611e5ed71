-- That what is marked follows, and that all is marked where nothing was new.
use Rattle.std.proofs.Common.{◌∙◌, length, ap, sym, arith}
use Rattle.std.proofs.lemmas.Bool.{false≢true}
use Rattle.dsr_effect.proofs.Avoiding.{marking_begins, marking_ends, marking_more, marking_same}
use Rattle.dsr_effect.proofs.avoided.mark_given.Goals as goal
use Rattle.dsr_effect.proofs.avoided.mark_given.Goals.{then-not-marks-set+then-is_given_avoided, else-not-marks-set, else-not-marks-set-via-then-not-marks-set+else-is_given_avoided, else-not-marks-set-via-else-not-marks-set}

pub loop-set-init : goal.loop-set-init
loop-set-init c = marking_begins c.args.spec.now c.args.marks.now c.told-marks

pub loop-set-preserved : goal.loop-set-preserved
loop-set-preserved c = elim c.if-not-marks-set.branch [
  | then-not-marks-set+then-is_given_avoided w ↦ rw (w.marks-is, w.grew-is)
      (marking_more c.args.spec.now c.args.marks.now c.loop-set.marks c.loop-set.grew c.loop-set.set c.loop-set.invariant
      (omega (arith, c.loop-set-test.true, c.min-set-end.ensures)) w.if-not-marks-set.true (w.is_given_avoided.ensures.0 w.if-is_given_avoided.true))
  | else-not-marks-set w ↦ rw (w.marks-is, w.grew-is)
      (marking_same c.args.spec.now c.args.marks.now c.loop-set.marks c.loop-set.grew c.loop-set.set c.loop-set.invariant
      (elim w.else-not-marks-set.branch [
        | else-not-marks-set-via-then-not-marks-set+else-is_given_avoided w' ↦ λ found. absurd (false≢true (sym w'.if-is_given_avoided.false ∙ w'.is_given_avoided.ensures.1 found))
        | else-not-marks-set-via-else-not-marks-set w' ↦ λ found. w'.if-not-marks-set.false
      ]))
]

pub returns-clause-sound : goal.returns-clause-sound
returns-clause-sound c = c.loop-set.invariant.sound

pub returns-clause-kept : goal.returns-clause-kept
returns-clause-kept c = c.loop-set.invariant.kept

pub returns-clause-progress : goal.returns-clause-progress
returns-clause-progress c =
    marking_ends c.args.spec.now c.args.marks.now c.loop-set.marks c.loop-set.grew c.loop-set.set
    (omega (arith, c.loop-set-test.false, c.min-set-end.ensures, ap length c.items.ensures)) c.loop-set.invariant
