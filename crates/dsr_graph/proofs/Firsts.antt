-- Updates of a template, one after the other, as each is judged.
use Rattle.std.proofs.Common.{◌≡◌, ◌<◌, ◌≤◌, ◌+◌, ℕ, true, false, nat_eq, List, Some, length, get_or, slice_get, refl, sym, ap, subst, ◌∙◌, arith}
use Rattle.std.proofs.lemmas.Bool.Decides.{nat_tests}
use Rattle.std.proofs.lemmas.Option.{slice_get_within}
use Rattle.dsr_graph_theory.specs.Breaks.{SomeUpdate}
use Rattle.dsr_compensate.proofs.Each.{item_at}
use Rattle.dsr_compensate.specs.Taking.{IsJudged}
use Rattle.dsr_compensate.specs.declared.judging.Judged.{Judged}
use Rattle.dsr_ir.specs.declared.updates.Template.{Template}
use Rattle.dsr_ir.specs.declared.updates.Update.{Update}
use Rattle.dsr_graph_theory.specs.Owners.{IsJudgedAt, Owner, change_of, goal_at}
use Rattle.dsr_compensate.specs.Judged.{IsEffectOf}
use Rattle.dsr_update_theory.specs.Changes.{Change}
use Rattle.dsr_update_theory.specs.declared.effects.Effect.{Effect}
use Rattle.dsr_meaning.proofs.Items.{item_there}

-- the update with this place as it is judged
abbrev pub change_at : Owner → Template → ℕ → Update → Change
change_at owner template n update = change_of owner (goal_at template.goal n) update

module _ (owner : Owner) (template : Template) (Such : Change → Type 0) where
  -- none of those before the place is such a one
  abbrev pub NoneBefore : ℕ → Type 0
  NoneBefore k = (n : ℕ) (c : Change) → n < k → IsJudgedAt owner template n c → Such c → ⊥

  pub some_here : (k : ℕ) (update : Update) → slice_get template.updates k ≡ Some update → Such (change_at owner template k update) → SomeUpdate owner template Such
  some_here k update here such = (k, change_at owner template k update, record { update = update; update_is = here; change_is = refl }, such)

  pub none_more : (k : ℕ) (update : Update) → slice_get template.updates k ≡ Some update → (Such (change_at owner template k update) → ⊥) → NoneBefore k → NoneBefore (k + 1)
  none_more k update here not_such before n c below judged such =
      elim (nat_eq n k) as (λ t. nat_eq n k ≡ t → ⊥) [
        | true ↦ λ e.
            let same : n ≡ k = grind (arith, nat_tests) in
            let is : Some judged.update ≡ Some update = sym judged.update_is ∙ (ap (slice_get template.updates) same ∙ here) in
            let update_is : judged.update ≡ update = cc in
            not_such (subst (λ u. Such (change_at owner template k u)) update_is (subst (λ m. Such (change_at owner template m judged.update)) same (subst Such judged.change_is such)))
        | false ↦ λ e. before n c (grind (arith, nat_tests)) judged such
      ] refl

  pub none_ends : (k : ℕ) → length template.updates ≤ k → NoneBefore k → SomeUpdate owner template Such → ⊥
  none_ends k past before some =
      let less = slice_get_within template.updates some.0 some.2.update some.2.update_is in
      before some.0 some.1 (omega (arith, past, less)) some.2 some.3

module _ (owner : Owner) (judged : Judged) (is : IsJudged owner judged) where
  -- the update at which a loop is, and its effect
  pub update_here : (us : List Update) → us ≡ judged.template.updates → (n : ℕ) → n < length us → (u : Update) → u ≡ get_or us n u → slice_get judged.template.updates n ≡ Some u
  update_here us us_are n less u u_is = subst (λ xs. slice_get xs n ≡ Some u) us_are (item_at us n u less u_is)

  pub effect_here : (us : List Update) → us ≡ judged.template.updates → (es : List Effect) → es ≡ judged.effects → (n : ℕ) → n < length us → (u : Update) → u ≡ get_or us n u → (e : Effect) → e ≡ get_or es n e → IsEffectOf (change_at owner judged.template n u) e
  effect_here us us_are es es_are n less u u_is e e_is =
      let many = is.as_many in
      let u_many = ap length us_are in
      let e_many = ap length es_are in
      is.are n u e (update_here us us_are n less u u_is) (subst (λ xs. slice_get xs n ≡ Some e) es_are (item_at es n e (omega (arith, less, many, u_many, e_many)) e_is))

  -- the effect at which a loop is, and its update
  pub update_of : (es : List Effect) → es ≡ judged.effects → (n : ℕ) → n < length es → (e : Effect) → e ≡ get_or es n e → (u : Update) × (slice_get judged.template.updates n ≡ Some u) × IsEffectOf (change_at owner judged.template n u) e
  update_of es es_are n less e e_is =
      let many = is.as_many in
      let e_many = ap length es_are in
      let found = item_there judged.template.updates n (omega (arith, less, many, e_many)) in
      (found.0, found.1, is.are n found.0 e found.1 (subst (λ xs. slice_get xs n ≡ Some e) es_are (item_at es n e less e_is)))
