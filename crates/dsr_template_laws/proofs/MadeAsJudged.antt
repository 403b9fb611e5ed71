-- The step of an update that is tried is fit, and made as the update is judged: so what it changes lies in the table.
use Rattle.std.proofs.Common.{◌≡◌, ◌⊎◌, ◌∙◌, ℕ, true, [], ◌∷◌, Some, inl, inr, refl, sym, ap, subst}
use Rattle.std.proofs.lemmas.Bool.{false≢true}
use Rattle.dsr_repair_theory.specs.Changed.{IsGained, IsLost}
use Rattle.dsr_repair_theory.specs.Choices.{Adds, IsPlace, TakesAway}
use Rattle.dsr_effect_laws.specs.Allowed.{Lies}
use Rattle.dsr_effect_laws.specs.Fitting.{IsAlwaysMade, IsFitStep}
use Rattle.dsr_effect_laws.specs.Judged.{IsMadeAsJudged}
use Rattle.dsr_effect_laws.proofs.FactChanges.{gains_lie, losses_lie}
use Rattle.dsr_step_laws.proofs.GivenSymbols.{giver_of}
use Rattle.dsr_effect_laws.proofs.StepReads.{left_as_judged}
use Rattle.dsr_repair_laws.proofs.PlainSets.{as_fact, given_plain}
use Rattle.dsr_repair_laws.proofs.TriedSteps.{IsTriedStep, chosen_kind, placed_at, stopped}
use Rattle.dsr_step_laws.proofs.HeadRules.{only_head}
use Rattle.dsr_ir.specs.declared.constraints.Atom.{Atom}
use Rattle.dsr_ir.specs.declared.tuples.Binding.{Binding}
use Rattle.dsr_ir.specs.declared.tuples.Element.{Element}
use Rattle.dsr_ir.specs.declared.tuples.Fact.{Fact}
use Rattle.dsr_ir.specs.declared.tuples.Fact.TheVariants.{Member}
use Rattle.dsr_ir.specs.declared.updates.Goal.{Goal}
use Rattle.dsr_ir.specs.declared.updates.Goal.TheVariants as goals
use Rattle.dsr_ir.specs.declared.updates.Place.{Place}
use Rattle.dsr_ir.specs.declared.updates.Place.TheVariants as places
use Rattle.dsr_ir.specs.declared.updates.Write.{Write}
use Rattle.dsr_layout.specs.InRange.{IsRecordOf}
use Rattle.dsr_graph_theory.specs.Owners.{goal_at}
use Rattle.dsr_meaning.specs.Counting.{IsIn}
use Rattle.dsr_meaning.specs.Models.{IsDerived, IsFact}
use Rattle.dsr_meaning.specs.Truth.{head}
use Rattle.dsr_update_theory.specs.Changes.{Change}
use Rattle.dsr_update_theory.specs.Touching.{IsKeptApartBy, is_removal}
use Rattle.dsr_update_theory.specs.declared.effects.Direction.TheVariants.{Gain, Loss}
use Rattle.dsr_template_laws.specs.Judging.{Application, change_in, owner_of}
use Rattle.dsr_template_laws.specs.Tried.{IsTried}
use Rattle.dsr_template_laws.proofs.AlwaysMade.{option_always}
use Rattle.dsr_template_laws.proofs.ExclusiveSets.{exclusive_holds}
use Rattle.dsr_template_laws.proofs.FitUpdates.{each_fit}
use Rattle.dsr_template_laws.proofs.FreshRecords.{another, fresh_one, taken}
use Rattle.dsr_template_laws.proofs.IndexedWrites.{indexed_alone, taken_alone}
use Rattle.dsr_template_laws.proofs.KnownMembers.{known_holds, last}
use Rattle.dsr_template_laws.proofs.SilentRules.{silent}
use Rattle.dsr_template_laws.proofs.TriedApplications.{legal, literal_there, tried_step}

-- an update that adds is no removal, at its place
adds_keep : (is_fact : Fact → Type 0) (b : Binding) (atom : Atom) (goal : Goal) → Adds is_fact b atom goal → is_removal (goal_at goal 0) ≡ true → ⊥
adds_keep is_fact b atom goals.AddSet adds removes = false≢true removes
adds_keep is_fact b atom goals.AddTuple adds removes = false≢true removes
adds_keep is_fact b atom goals.SetValue adds removes = false≢true removes
adds_keep is_fact b atom goals.Supply adds removes = false≢true removes
adds_keep is_fact b atom goals.ExactlyOne adds removes = false≢true removes
adds_keep is_fact b atom goals.RemoveSet adds removes = adds
adds_keep is_fact b atom goals.RemoveTuple adds removes = adds
adds_keep is_fact b atom goals.Trim adds removes = adds

module _ (a : Application) (t : IsTried a) where
  abbrev J : Change
  J = change_in a

  abbrev s : IsTriedStep a.spec a.layout a.old a.step a.update
  s = tried_step a t.tried

  abbrev is_fact : Fact → Type 0
  is_fact = IsFact a.spec a.layout a.old

  -- ---- the step is fit

  always : is_removal J.goal ≡ true → (write : Write) → IsIn write a.update.writes → IsAlwaysMade J a.layout a.step a.old write
  always removes write is_in = elim (chosen_kind a.spec a.layout a.old a.step a.update s) as (λ _. IsAlwaysMade J a.layout a.step a.old write) [
    | inl first ↦ absurd (adds_keep is_fact a.step.binding a.applied.literal.atom a.template.goal first.adds (subst (λ n. is_removal (goal_at a.template.goal n) ≡ true) first.first removes))
    | inr stop ↦
        let at = stopped a.spec a.layout a.old a.step a.update s stop in
        let alone = taken_alone (owner_of a) t.tried.raw a.step.update t.tried.own a.update t.tried.own_at t.tried.grown (subst (λ g. TakesAway g a.step.update) t.tried.goal_same stop.removing.takes) in
        elim (subst (IsIn write) (alone ∙ stop.removing.writes_are) is_in) as (λ _. IsAlwaysMade J a.layout a.step a.old write) [
          | inl same ↦ subst (IsAlwaysMade J a.layout a.step a.old) (sym same) (option_always J a.layout a.step a.old stop.instance stop.removing.rule stop.fact at.gives at.elem at.index stop.removing.write stop.removing.option)
          | inr none ↦ absurd none
        ]
  ]

  in_head : a.step.elem.pool ≡ 0 → a.step.elem ≡ head
  in_head none = only_head a.layout a.step.elem (subst (λ p. IsRecordOf a.layout p a.step.elem) none (placed_at a.spec a.layout a.old a.step a.update s).of_pool)

  entries : (write : Write) → IsIn write a.update.writes → write.path.indexed ≡ true → (a.update.writes ≡ write ∷ []) ⊎ (a.step.elem.pool ≡ 0)
  entries write is_in indexed =
      elim (indexed_alone (owner_of a) a.applied.image.typed a.applied.literal a.template a.step.update a.update t.tried write indexed (literal_there a).literal_typed is_in) as (λ _. (a.update.writes ≡ write ∷ []) ⊎ (a.step.elem.pool ≡ 0)) [
        | inl alone ↦ inl alone
        | inr at_head ↦ inr (ap (λ (e : Element). e.pool) (subst (λ p. IsPlace a.step.binding a.applied.chosen.stopped p a.step.elem) at_head a.applied.chosen.place))
      ]

  pub fit : IsFitStep J a.layout a.step a.old a.new
  fit = record {
    image = a.applied.image;
    stepped = a.applied.stepped;
    in_head = in_head;
    together = t.may.writes;
    writes = each_fit a t.tried;
    removal = always;
    entries = entries;
    fresh = λ e is. ((fresh_one a t e is).update_is, (fresh_one a t e is).supplied.slot, another a t e is);
  }

  -- ---- and made as the update is judged

  kept_apart : (place : Place) → a.update.place ≡ place → (premise : ℕ) → IsKeptApartBy J place (Some premise) → IsDerived a.spec a.layout a.old (Member premise a.step.elem) → ⊥
  kept_apart places.Head is premise k d = k
  kept_apart places.Deriver is premise k d = k
  kept_apart (places.Of v) is premise k d =
      let at_v = subst (λ p. IsPlace a.step.binding a.applied.chosen.stopped p a.step.elem) is a.applied.chosen.place in
      let fact = known_holds a.spec a.applied.image.typed a.layout a.old a.applied.violated.constraint.quant a.step.binding a.applied.violated.is_binding k.1 a.step.elem at_v in
      let l = last a.spec a.applied.image.typed a.layout a.old d.0 (Member premise a.step.elem) d.1 in
      let plain = given_plain a.spec a.applied.image.typed premise l.instance.rule l.rule (record { rule_is = l.gives.is_instance.rule_is; gives = giver_of a.spec a.layout a.old l.instance l.rule.inc (Member premise a.step.elem) l.gives.included }) in
      exclusive_holds a.spec a.applied.image.typed a.layout a.old a.step.constraint a.applied.facts_hold premise k.0 k.2 a.step.elem (as_fact a.spec a.layout a.old premise a.step.elem plain d) fact

  pub made : IsMadeAsJudged J a.layout a.step a.old a.new
  made = record {
    typed = a.applied.image.typed;
    legal = legal a;
    left = left_as_judged J a.layout a.step a.old a.new fit;
    pool_is = (placed_at a.spec a.layout a.old a.step a.update s).pool_is;
    apart = kept_apart a.update.place refl;
    silent = silent a t.tried;
    fresh = taken a t;
  }

  pub gains : (fact : Fact) → IsGained a.spec a.layout a.old a.new fact → Lies J a.step Gain fact
  gains = gains_lie J a.layout a.step a.old a.new made

  pub losses : (fact : Fact) → IsLost a.spec a.layout a.old a.new fact → Lies J a.step Loss fact
  losses = losses_lie J a.layout a.step a.old a.new made
