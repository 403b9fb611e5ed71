-- Facts that come and go lie in the table, and what no tag allows stays.
use Rattle.std.proofs.Common.{◌≡◌, ◌⊎◌, ℕ, List, Option, None, Some, inl, inr, refl, subst}
use Rattle.dsr_model_laws.proofs.Active.{active_decided}
use Rattle.dsr_model_laws.proofs.Instances.{compared_facts}
use Rattle.dsr_model_laws.proofs.Models.{chains_decided, facts_listed}
use Rattle.dsr_model_laws.proofs.Truths.{fact_decided}
use Rattle.dsr_ir.specs.declared.layouts.Layout.{Layout}
use Rattle.dsr_ir.specs.declared.tuples.Element.{Element}
use Rattle.dsr_ir.specs.declared.tuples.Fact.{Fact}
use Rattle.dsr_ir.specs.declared.tuples.Fact.TheVariants.{Member, Pair}
use Rattle.dsr_ir.specs.declared.tuples.Instance.{Instance}
use Rattle.dsr_meaning.proofs.Firing.{derived_once}
use Rattle.dsr_meaning.specs.Legal.{IsLegalLayout}
use Rattle.dsr_meaning.specs.Models.{IsDerived, IsDerivedBy, IsFact, IsMemberBy, base_of}
use Rattle.dsr_step_theory.specs.declared.steps.Step.{Step}
use Rattle.dsr_update_theory.specs.Changes.{Change}
use Rattle.dsr_update_theory.specs.Effects.{other_direction}
use Rattle.dsr_update_theory.specs.declared.effects.Direction.{Direction}
use Rattle.dsr_update_theory.specs.declared.effects.Direction.TheVariants.{Gain, Loss}
use Rattle.dsr_effect_laws.specs.Allowed.{Lies}
use Rattle.dsr_effect_laws.specs.Judged.{IsMadeAsJudged}
use Rattle.dsr_repair_theory.specs.Changed.{IsGained, IsLost}
use Rattle.dsr_effect_laws.proofs.Complements.{gained, joined}
use Rattle.dsr_effect_laws.proofs.InstanceChanges.{newly_derived, newly_given, no_more_derived, no_more_given}
use Rattle.dsr_effect_laws.proofs.TestedValues.{AreTold}
use Rattle.dsr_effect_laws.proofs.TestedValues.{none_told}

-- a fact that is in the one model and not in the other
module _ (c : Change) (layout : Layout) (step : Step) (direction : Direction) (from to : List ℕ)
    (newly : (i : Instance) (fact : Fact) → IsDerivedBy c.spec layout to i fact → (IsDerivedBy c.spec layout from i fact → ⊥) → Lies c step direction fact)
    (come : (fact : Fact) → IsDerived c.spec layout to fact → (IsDerived c.spec layout from fact → ⊥) → Lies c step direction fact)
    (gone : (fact : Fact) → IsDerived c.spec layout from fact → (IsDerived c.spec layout to fact → ⊥) → Lies c step (other_direction direction) fact)
    (legal : IsLegalLayout layout) where
  by_base : (set : ℕ) (e : Element) (o : Option ℕ) → base_of c.spec set ≡ o → IsMemberBy c.spec layout to set o e → (IsMemberBy c.spec layout from set o e → ⊥) → Lies c step direction (Member set e)
  by_base set e None is there not = come (Member set e) there not
  by_base set e (Some base) is there not = joined c layout step direction from to newly gone (chains_decided c.spec layout from) set base e is there not

  come_lies : (fact : Fact) → IsFact c.spec layout to fact → (IsFact c.spec layout from fact → ⊥) → Lies c step direction fact
  come_lies (Member set e) there not = by_base set e (base_of c.spec set) refl there not
  come_lies (Pair rel e target) there not = come (Pair rel e target) there not

  -- what no tag allows was there before
  fact_stays : (fact : Fact) → (Lies c step direction fact → ⊥) → IsFact c.spec layout to fact → IsFact c.spec layout from fact
  fact_stays fact none there = elim (fact_decided (IsFact c.spec layout from) (facts_listed c.spec layout from) fact) as (λ _. IsFact c.spec layout from fact) [
    | inl before ↦ before
    | inr not ↦ absurd (none (come_lies fact there not))
  ]

  by_decided : (i : Instance) (fact : Fact) → IsDerivedBy c.spec layout from i fact ⊎ (IsDerivedBy c.spec layout from i fact → ⊥)
  by_decided i fact = elim (active_decided c.spec layout from i) as (λ _. IsDerivedBy c.spec layout from i fact ⊎ (IsDerivedBy c.spec layout from i fact → ⊥)) [
    | inr idle ↦ inr (λ by. idle (fact, by))
    | inl active ↦ elim (compared_facts active.0 fact) as (λ _. IsDerivedBy c.spec layout from i fact ⊎ (IsDerivedBy c.spec layout from i fact → ⊥)) [
      | inl same ↦ inl (subst (IsDerivedBy c.spec layout from i) same active.1)
      | inr other ↦ inr (λ by. other (derived_once c.spec layout from legal i active.0 fact active.1 by))
    ]
  ]

  -- and the instance that gives it gave it
  given_stays : (i : Instance) (fact : Fact) → (Lies c step direction fact → ⊥) → IsDerivedBy c.spec layout to i fact → IsDerivedBy c.spec layout from i fact
  given_stays i fact none by = elim (by_decided i fact) as (λ _. IsDerivedBy c.spec layout from i fact) [
    | inl before ↦ before
    | inr not ↦ absurd (none (newly i fact by not))
  ]

module _ (c : Change) (layout : Layout) (step : Step) (old new : List ℕ) (made : IsMadeAsJudged c layout step old new) where
  abbrev told : AreTold layout
  told = none_told layout made.legal

  abbrev decided : (bytes : List ℕ) (fact : Fact) → IsDerived c.spec layout bytes fact ⊎ (IsDerived c.spec layout bytes fact → ⊥)
  decided = chains_decided c.spec layout

  pub new_facts_lie : (fact : Fact) → IsFact c.spec layout new fact → (IsFact c.spec layout old fact → ⊥) → Lies c step Gain fact
  new_facts_lie = come_lies c layout step Gain old new (newly_given c layout step old new made told decided) (newly_derived c layout step old new made told decided) (no_more_derived c layout step old new made told decided) made.legal

  pub lost_facts_lie : (fact : Fact) → IsFact c.spec layout old fact → (IsFact c.spec layout new fact → ⊥) → Lies c step Loss fact
  lost_facts_lie = come_lies c layout step Loss new old (no_more_given c layout step old new made told decided) (no_more_derived c layout step old new made told decided) (newly_derived c layout step old new made told decided) made.legal

  -- a fact that no tag allows among the gains isn't new, nor is the instance that gives it
  pub not_gained : (fact : Fact) → (Lies c step Gain fact → ⊥) → IsFact c.spec layout new fact → IsFact c.spec layout old fact
  not_gained = fact_stays c layout step Gain old new (newly_given c layout step old new made told decided) (newly_derived c layout step old new made told decided) (no_more_derived c layout step old new made told decided) made.legal

  pub gives_as_before : (i : Instance) (fact : Fact) → (Lies c step Gain fact → ⊥) → IsDerivedBy c.spec layout new i fact → IsDerivedBy c.spec layout old i fact
  gives_as_before = given_stays c layout step Gain old new (newly_given c layout step old new made told decided) (newly_derived c layout step old new made told decided) (no_more_derived c layout step old new made told decided) made.legal

  -- one that none allows among the losses is there afterwards, and the instance gives it
  pub not_lost : (fact : Fact) → (Lies c step Loss fact → ⊥) → IsFact c.spec layout old fact → IsFact c.spec layout new fact
  not_lost = fact_stays c layout step Loss new old (no_more_given c layout step old new made told decided) (no_more_derived c layout step old new made told decided) (newly_derived c layout step old new made told decided) made.legal

  pub still_gives : (i : Instance) (fact : Fact) → (Lies c step Loss fact → ⊥) → IsDerivedBy c.spec layout old i fact → IsDerivedBy c.spec layout new i fact
  still_gives = given_stays c layout step Loss new old (no_more_given c layout step old new made told decided) (no_more_derived c layout step old new made told decided) (newly_derived c layout step old new made told decided) made.legal

-- ---- so does what is gained or lost

pub gains_lie : (c : Change) (layout : Layout) (step : Step) (old new : List ℕ) → IsMadeAsJudged c layout step old new → (fact : Fact) → IsGained c.spec layout old new fact → Lies c step Gain fact
gains_lie c layout step old new made =
    let told = none_told layout made.legal in
    let decided = chains_decided c.spec layout in
    gained c layout step Gain old new (newly_given c layout step old new made told decided) (no_more_derived c layout step old new made told decided) (decided old)

pub losses_lie : (c : Change) (layout : Layout) (step : Step) (old new : List ℕ) → IsMadeAsJudged c layout step old new → (fact : Fact) → IsLost c.spec layout old new fact → Lies c step Loss fact
losses_lie c layout step old new made =
    let told = none_told layout made.legal in
    let decided = chains_decided c.spec layout in
    gained c layout step Loss new old (no_more_given c layout step old new made told decided) (newly_derived c layout step old new made told decided) (decided new)
