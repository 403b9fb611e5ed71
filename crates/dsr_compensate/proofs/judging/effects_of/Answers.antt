use Rattle.std.proofs.Common.{◌≡◌, ◌+◌, ◌++◌, [], ◌∷◌, length, take, refl, sym, ap, subst, ◌∙◌, arith}
use Rattle.std.proofs.lemmas.Grind.{common_steps}
use Rattle.dsr_compensate.proofs.Each.{take_length}
use Rattle.dsr_compensate.proofs.Effects.{effects_more}
use Rattle.dsr_compensate.proofs.Later.{take_next}
use Rattle.dsr_compensate.specs.Taking.{AreEffectsOf}
use Rattle.dsr_graph_theory.specs.Owners.{change_of, goal_at}
use Rattle.dsr_compensate.specs.Judged.{IsEffectOf}
use Rattle.dsr_compensate.specs.Owned.{owner_of}
use Rattle.dsr_compensate.proofs.judging.effects_of.Goals as goal

pub loop-place-preserved : goal.loop-place-preserved
loop-place-preserved c =
    let owner = owner_of c.args.owner.now in
    let update = c.index-updates-place.result in
    let place = c.loop-place.place in
    let below = c.loop-place-test.true in
    let front = take_length place c.args.updates.now (omega (arith, below)) in
    let its : IsEffectOf (change_of owner (goal_at c.args.goal (length (take place c.args.updates.now))) update) c.in_ok-effect.effect =
    subst (λ n. IsEffectOf (change_of owner (goal_at c.args.goal n) update) c.in_ok-effect.effect) (sym front)
    (subst (λ g. IsEffectOf (change_of owner g update) c.in_ok-effect.effect) c.goal_at.ensures c.in_ok-effect.ensures) in
    subst (λ us. AreEffectsOf owner c.args.goal us c.push.new.self.items) (sym (take_next c.args.updates.now c.args.updates.now refl place below update c.index-updates-place.is))
    (subst (AreEffectsOf owner c.args.goal (take place c.args.updates.now ++ update ∷ [])) (sym c.in_ok-push.ensures.items)
    (effects_more owner c.args.goal (take place c.args.updates.now) c.loop-place.effects.items update c.in_ok-effect.effect c.loop-place.invariant its))

pub returns : goal.returns
returns c = grind (arith, common_steps)
