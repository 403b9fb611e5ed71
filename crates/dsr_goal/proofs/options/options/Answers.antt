use Rattle.std.proofs.Common.{false, ap, sym, ◌∙◌, arith}
use Rattle.std.proofs.lemmas.Grind.{common_steps}
use Rattle.dsr_update_theory.specs.Guards.{guard_write}
use Rattle.dsr_goal.proofs.Givers.{filter_more, filter_same}
use Rattle.dsr_goal.proofs.options.options.Goals as goal
use Rattle.dsr_goal.proofs.options.options.Goals.{in-Some+in_ok-push, in_default}

pub loop-guard-preserved : goal.loop-guard-preserved
loop-guard-preserved c = elim c.match-guard_write.branch [
  | in-Some+in_ok-push w ↦ filter_more (guard_write c.args.base.now false) c.items-guard-items.result.now c.loop-guard.guard-index _ c.loop-guard-test.true w.in-Some.write (sym c.guard_write.ensures ∙ w.in-Some.is) (ap (λ v. v.items) w.writes-is ∙ w.in_ok-push.ensures.items) c.loop-guard.invariant
  | in_default w ↦ filter_same (guard_write c.args.base.now false) c.items-guard-items.result.now c.loop-guard.guard-index _ c.loop-guard-test.true (sym c.guard_write.ensures ∙ w.in_default.is) (ap (λ v. v.items) w.writes-is ∙ c.loop-guard.invariant)
]

pub returns : goal.returns
returns c = grind (arith, common_steps)
