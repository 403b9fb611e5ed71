-- That the rows have exactly what is handed on.
use Rattle.std.proofs.Common.{◌<◌, ◌∙◌, MatchBool, All, sym, subst}
use Rattle.dsr_effect.specs.Rows.{IsBetween}
use Rattle.dsr_effect.specs.Settling.{IsDone, missing}
use Rattle.dsr_effect.proofs.Handing.{exactly, sound_again, sound_first}
use Rattle.dsr_effect.proofs.flows.settle.Goals as goal

pub loop-init : goal.loop-init
loop-init c = (sound_first c.args.flows.now c.args.rows.now, λ row tag h. h)

pub loop-smaller : goal.loop-smaller
loop-smaller c = subst (λ b. MatchBool b (missing c.hand_on_all.new.rows < missing c.loop.rows) (All (IsDone c.hand_on_all.new.rows) c.args.flows.now)) c.loop-test.true c.hand_on_all.ensures.progress

pub loop-preserved : goal.loop-preserved
loop-preserved c = (
  sound_again c.args.flows.now c.args.rows.now c.loop.rows c.hand_on_all.new.rows c.loop.invariant.0 c.hand_on_all.ensures.sound,
  λ row tag h. c.hand_on_all.ensures.kept row tag (c.loop.invariant.1 row tag h),
)

pub returns-clause-exactly : goal.returns-clause-exactly
returns-clause-exactly c =
    exactly c.args.flows.now c.args.rows.now c.hand_on_all.new.rows
    (subst (λ n. All (IsBetween n) c.args.flows.now) (sym (c.hand_on_all.ensures.length ∙ c.loop.auto.rows)) c.requires.between)
    (sound_again c.args.flows.now c.args.rows.now c.loop.rows c.hand_on_all.new.rows c.loop.invariant.0 c.hand_on_all.ensures.sound)
    (λ row tag h. c.hand_on_all.ensures.kept row tag (c.loop.invariant.1 row tag h))
    (subst (λ b. MatchBool b (missing c.hand_on_all.new.rows < missing c.loop.rows) (All (IsDone c.hand_on_all.new.rows) c.args.flows.now)) c.loop-test.false c.hand_on_all.ensures.progress)
