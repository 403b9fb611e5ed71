use Rattle.std.proofs.Common.{◌≡◌, Some, slice_get, length, refl, sym, ap, subst, ◌∙◌, arith}
use Rattle.std.proofs.lemmas.Bool.{false≢true}
use Rattle.dsr_compensate.proofs.Each.{each_ends, each_more, item_at}
use Rattle.dsr_graph_theory.specs.Owners.{change_of, goal_at}
use Rattle.dsr_graph_theory.specs.Sides.{MayBeMade}
use Rattle.dsr_compensate.specs.Owned.{owner_of}
use Rattle.dsr_compensate.proofs.judging.may_all_be_made.Goals as goal

pub returns-then-not-may_be_made : goal.returns-then-not-may_be_made
returns-then-not-may_be_made c =
    let number = c.loop-update.update-index in
    let there = subst (λ us. slice_get us number ≡ Some c.update-item.result) c.items-update-items.ensures (item_at c.items-update-items.result.now number c.update-item.result c.loop-update-test.true c.update-item.is) in (
      λ no. absurd (false≢true no),
      λ all. sym c.if-not-may_be_made.true ∙ (c.may_be_made.ensures (goal_at c.args.template.now.goal number)).1 (all number c.update-item.result there),
    )

pub loop-update-preserved : goal.loop-update-preserved
loop-update-preserved c =
    let number = c.loop-update.update-index in
    let there = subst (λ us. slice_get us number ≡ Some c.update-item.result) c.items-update-items.ensures (item_at c.items-update-items.result.now number c.update-item.result c.loop-update-test.true c.update-item.is) in
    each_more (λ n update. MayBeMade (change_of (owner_of c.args.owner.now) (goal_at c.args.template.now.goal n) update)) c.args.template.now.updates number c.update-item.result
    there ((c.may_be_made.ensures (goal_at c.args.template.now.goal number)).0 c.if-not-may_be_made.false) c.loop-update.invariant

pub returns : goal.returns
returns c =
    let past = c.loop-update-test.false in
    let same = ap length c.items-update-items.ensures in (
      λ _. each_ends (λ n update. MayBeMade (change_of (owner_of c.args.owner.now) (goal_at c.args.template.now.goal n) update)) c.args.template.now.updates c.loop-update.update-index (omega (arith, past, same)) c.loop-update.invariant,
      λ _. refl,
    )
