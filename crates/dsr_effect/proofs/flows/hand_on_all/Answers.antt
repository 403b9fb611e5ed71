-- That each flow is gone along once.
use Rattle.std.proofs.Common.{◌≡◌, ◌<◌, MatchBool, subst}
use Rattle.dsr_effect.specs.Settling.{missing}
use Rattle.dsr_effect.proofs.Handing.{handing_begins, handing_grew, handing_over, handing_same}
use Rattle.dsr_effect.proofs.flows.hand_on_all.Goals as goal
use Rattle.dsr_effect.proofs.flows.hand_on_all.Goals.{then-hand_on, else-hand_on}

pub loop-flow-init : goal.loop-flow-init
loop-flow-init c = handing_begins c.args.flows.now c.args.rows.now

pub loop-flow-preserved : goal.loop-flow-preserved
loop-flow-preserved c = elim c.if-hand_on.branch [
  | then-hand_on w ↦ rw w.grew-is (handing_grew c.args.flows.now c.args.rows.now c.loop-flow.rows c.hand_on.new.rows c.loop-flow.grew c.loop-flow.flow-index _ c.loop-flow-test.true c.hand_on.ensures.rows c.loop-flow.invariant
      (subst (λ b. MatchBool b (missing c.hand_on.new.rows < missing c.loop-flow.rows) (c.hand_on.new.rows ≡ c.loop-flow.rows)) w.if-hand_on.true c.hand_on.ensures.progress))
  | else-hand_on w ↦ rw w.grew-is (handing_same c.args.flows.now c.args.rows.now c.loop-flow.rows c.hand_on.new.rows c.loop-flow.grew c.loop-flow.flow-index _ c.loop-flow-test.true c.hand_on.ensures.rows c.loop-flow.invariant
      (subst (λ b. MatchBool b (missing c.hand_on.new.rows < missing c.loop-flow.rows) (c.hand_on.new.rows ≡ c.loop-flow.rows)) w.if-hand_on.false c.hand_on.ensures.progress))
]

pub returns-clause-sound : goal.returns-clause-sound
returns-clause-sound c = c.loop-flow.invariant.sound

pub returns-clause-kept : goal.returns-clause-kept
returns-clause-kept c = c.loop-flow.invariant.kept

pub returns-clause-progress : goal.returns-clause-progress
returns-clause-progress c = handing_over c.args.flows.now c.args.rows.now c.loop-flow.rows c.loop-flow.grew c.loop-flow.flow-index c.loop-flow-test.false c.loop-flow.invariant
