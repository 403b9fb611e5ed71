use Rattle.std.proofs.Common.{[], sym, ap, subst, ◌∙◌, arith}
use Rattle.std.proofs.lemmas.Grind.{common_steps}
use Rattle.dsr_graph.proofs.Once.{once_passed, once_pushed}
use Rattle.dsr_update_theory.specs.Templates.{AreOnce}
use Rattle.dsr_graph.proofs.causes.each_once.Goals as goal
use Rattle.dsr_graph.proofs.causes.each_once.Goals.{then-is_new+in_ok-push, else-is_new}

pub loop-cause-init : goal.loop-cause-init
loop-cause-init c = subst (AreOnce [] []) (sym c.new-once.ensures.items) AreOnce.done

pub loop-cause-preserved : goal.loop-cause-preserved
loop-cause-preserved c = elim c.if-is_new.branch [
  | then-is_new+in_ok-push w ↦
      once_pushed c.args.causes.now c.loop-cause.cause-index _ c.loop-cause-test.true c.loop-cause.once.items c.deref.result.now c.if-is_new.once.items
      (ap (λ v. v.items) w.once-is ∙ w.in_ok-push.ensures.items) c.deref.ensures.value w.if-is_new.ensures c.loop-cause.invariant
  | else-is_new w ↦
      once_passed c.args.causes.now c.loop-cause.cause-index _ c.loop-cause-test.true c.loop-cause.once.items c.deref.result.now c.if-is_new.once.items
      (ap (λ v. v.items) w.once-is) c.deref.ensures.value w.if-is_new.ensures c.loop-cause.invariant
]

pub returns : goal.returns
returns c = grind (arith, common_steps)
