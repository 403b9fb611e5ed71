-- What updates may change, with one more behind the others.
use Rattle.std.proofs.Common.{◌≡◌, ◌<◌, ◌+◌, ◌++◌, ℕ, true, false, nat_eq, List, [], ◌∷◌, length, slice_get, refl, sym, ap, subst, ◌∙◌, arith}
use Rattle.std.proofs.lemmas.Bool.Decides.{nat_tests}
use Rattle.std.proofs.lemmas.Option.{slice_get_within, same_Some}
use Rattle.dsr_compensate.proofs.Each.{got_front, got_last, length_more}
use Rattle.dsr_compensate.specs.Taking.{AreEffectsOf}
use Rattle.dsr_ir.specs.declared.updates.Goal.{Goal}
use Rattle.dsr_ir.specs.declared.updates.Update.{Update}
use Rattle.dsr_graph_theory.specs.Owners.{Owner, change_of, goal_at}
use Rattle.dsr_compensate.specs.Judged.{IsEffectOf}
use Rattle.dsr_update_theory.specs.declared.effects.Effect.{Effect}

pub effects_more : (owner : Owner) (goal : Goal) (us : List Update) (es : List Effect) (u : Update) (e : Effect) → AreEffectsOf owner goal us es → IsEffectOf (change_of owner (goal_at goal (length us)) u) e → AreEffectsOf owner goal (us ++ u ∷ []) (es ++ e ∷ [])
effects_more owner goal us es u e before its =
    let us_long = length_more us u in
    let es_long = length_more es e in
    let many = before.as_many in
    record {
      as_many = omega (arith, us_long, es_long, many);
      are = λ m update effect there its_there.
          let below = slice_get_within (us ++ u ∷ []) m update there in
          elim (nat_eq m (length us)) as (λ t. nat_eq m (length us) ≡ t → IsEffectOf (change_of owner (goal_at goal m) update) effect) [
            | true ↦ λ f.
                let same : m ≡ length us = grind (arith, nat_tests) in
                let other : m ≡ length es = same ∙ sym many in
                let u_is : u ≡ update = same_Some u update (sym (got_last us u) ∙ (ap (slice_get (us ++ u ∷ [])) (sym same) ∙ there)) in
                let e_is : e ≡ effect = same_Some e effect (sym (got_last es e) ∙ (ap (slice_get (es ++ e ∷ [])) (sym other) ∙ its_there)) in
                subst (λ k. IsEffectOf (change_of owner (goal_at goal k) update) effect) (sym same)
                (subst (λ x. IsEffectOf (change_of owner (goal_at goal (length us)) x) effect) u_is (subst (λ x. IsEffectOf (change_of owner (goal_at goal (length us)) u) x) e_is its))
            | false ↦ λ f.
                let less : m < length us = grind (arith, nat_tests) in
                let less_too : m < length es = omega (arith, less, many) in
                before.are m update effect (sym (got_front us (u ∷ []) m less) ∙ there) (sym (got_front es (e ∷ []) m less_too) ∙ its_there)
          ] refl;
    }
