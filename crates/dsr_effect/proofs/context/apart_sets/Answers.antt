use Rattle.std.proofs.Common.{◌∙◌, arith, slice_index_or, subst, sym}
use Rattle.std.proofs.lemmas.Bool.{false≢true}
use Rattle.std.proofs.lemmas.List.{take_more}
use Rattle.dsr_effect.proofs.Apart.{AreApart, apart_begins, apart_more, apart_same}
use Rattle.dsr_effect.proofs.Guards.{take_past}
use Rattle.dsr_goal.specs.Knowing.{known_by}
use Rattle.dsr_effect.proofs.context.apart_sets.Goals as goal
use Rattle.dsr_effect.proofs.context.apart_sets.Goals.{then-pair-lt-MOST_SETS+then-has, else-pair-lt-MOST_SETS, else-pair-lt-MOST_SETS-via-then-pair-lt-MOST_SETS+else-has, else-pair-lt-MOST_SETS-via-else-pair-lt-MOST_SETS}

pub loop-pair-init : goal.loop-pair-init
loop-pair-init c = apart_begins (known_by c.args.known.now c.args.var)

pub loop-pair-preserved : goal.loop-pair-preserved
loop-pair-preserved c = elim c.if-pair-lt-MOST_SETS.branch [
  | then-pair-lt-MOST_SETS+then-has w ↦
      subst (AreApart (known_by c.args.known.now c.args.var) _) (sym w.marks-is)
      (apart_more (known_by c.args.known.now c.args.var) _ _ (slice_index_or c.args.exclusive.now c.loop-pair.pair-index (0, 0))
      (take_more c.args.exclusive.now c.loop-pair.pair-index (0, 0) c.loop-pair-test.true) c.loop-pair.marks c.loop-pair.invariant w.if-pair-lt-MOST_SETS.true (sym w.has.ensures ∙ w.if-has.true))
  | else-pair-lt-MOST_SETS w ↦
      subst (AreApart (known_by c.args.known.now c.args.var) _) (sym w.marks-is)
      (apart_same (known_by c.args.known.now c.args.var) _ _ (slice_index_or c.args.exclusive.now c.loop-pair.pair-index (0, 0))
      (take_more c.args.exclusive.now c.loop-pair.pair-index (0, 0) c.loop-pair-test.true) c.loop-pair.marks c.loop-pair.invariant (elim w.else-pair-lt-MOST_SETS.branch [
        | else-pair-lt-MOST_SETS-via-then-pair-lt-MOST_SETS+else-has v ↦ λ _ is_known. false≢true (sym v.if-has.false ∙ (v.has.ensures ∙ is_known))
        | else-pair-lt-MOST_SETS-via-else-pair-lt-MOST_SETS v ↦ λ lt _. let past = v.if-pair-lt-MOST_SETS.false in omega (arith, lt, past)
      ]))
]

pub returns : goal.returns
returns c = (subst (λ pairs. AreApart (known_by c.args.known.now c.args.var) pairs c.loop-pair.marks) (take_past c.args.exclusive.now c.loop-pair.pair-index c.loop-pair-test.false) c.loop-pair.invariant).exactly
