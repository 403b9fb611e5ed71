use Rattle.std.proofs.Common.{sym, ap, ◌∙◌}
use Rattle.std.proofs.lemmas.List.{take_all}
use Rattle.dsr_update_theory.specs.Templates.{others}
use Rattle.dsr_goal.proofs.Writes.{others_skips, others_keeps}
use Rattle.dsr_goal.proofs.adding.others.Goals as goal
use Rattle.dsr_goal.proofs.adding.others.Goals.{then-not-is_on+in_ok-push, else-not-is_on}

pub loop-guard-preserved : goal.loop-guard-preserved
loop-guard-preserved c = elim c.if-not-is_on.branch [
  | then-not-is_on+in_ok-push w ↦ others_keeps c.args.field c.args.guards.now c.loop-guard.guard-index _ c.loop-guard-test.true (sym c.is_on.ensures ∙ w.if-not-is_on.true) (ap (λ v. v.items) w.others-is ∙ w.in_ok-push.ensures.items) c.loop-guard.invariant
  | else-not-is_on w ↦ others_skips c.args.field c.args.guards.now c.loop-guard.guard-index _ c.loop-guard-test.true (sym c.is_on.ensures ∙ w.if-not-is_on.false) (ap (λ v. v.items) w.others-is ∙ c.loop-guard.invariant)
]

pub returns : goal.returns
returns c = c.loop-guard.invariant ∙ ap (others c.args.field) (take_all c.loop-guard.guard-index c.args.guards.now c.loop-guard-test.false)
