-- That exactly the named sets are marked.
use Rattle.dsr_effect.proofs.Avoiding.{naming_begins, naming_ends, naming_more, naming_same}
use Rattle.dsr_effect.proofs.avoided.mark_named.Goals as goal
use Rattle.dsr_effect.proofs.avoided.mark_named.Goals.{then-set-lt-MOST_SETS, else-set-lt-MOST_SETS}

pub loop-set-init : goal.loop-set-init
loop-set-init c = naming_begins c.args.avoid.now

pub loop-set-preserved : goal.loop-set-preserved
loop-set-preserved c = elim c.if-set-lt-MOST_SETS.branch [
  | then-set-lt-MOST_SETS w ↦ rw w.marks-is (naming_more c.args.avoid.now c.loop-set.marks c.loop-set.set-index c.loop-set-test.true w.if-set-lt-MOST_SETS.true c.loop-set.invariant)
  | else-set-lt-MOST_SETS w ↦ rw w.marks-is (naming_same c.args.avoid.now c.loop-set.marks c.loop-set.set-index w.if-set-lt-MOST_SETS.false c.loop-set.invariant)
]

pub returns-clause-sound : goal.returns-clause-sound
returns-clause-sound c = c.loop-set.invariant.sound

pub returns-clause-all : goal.returns-clause-all
returns-clause-all c = naming_ends c.args.avoid.now c.loop-set.marks c.loop-set.set-index c.loop-set-test.false c.loop-set.invariant
