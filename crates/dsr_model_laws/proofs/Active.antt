-- Whether an instance is active is decided: it is where it fires and its premise is the head or derived.
use Rattle.std.proofs.Common.{◌≡◌, ◌<◌, ◌⊎◌, ℕ, List, [], ◌∷◌, None, Some, All, inl, inr}
use Rattle.std.specs.Prelude.{slice_get}
use Rattle.dsr_ir.specs.declared.declarations.Spec.{Spec}
use Rattle.dsr_ir.specs.declared.layouts.Layout.{Layout}
use Rattle.dsr_ir.specs.declared.rules.Rule.{Rule}
use Rattle.dsr_ir.specs.declared.tuples.Fact.{Fact}
use Rattle.dsr_ir.specs.declared.tuples.Fact.TheVariants.{Member}
use Rattle.dsr_ir.specs.declared.tuples.Instance.{Instance}
use Rattle.dsr_meaning.specs.Instances.{Gives, GuardHolds, Includes, IsInstance, index_count, premise_pool, record_count}
use Rattle.dsr_meaning.specs.Models.{Chain, begin, follow, IsActive, IsDerived}
use Rattle.dsr_model_laws.specs.Deciding.{IsDecided}
use Rattle.dsr_model_laws.proofs.Ways.{both, by_logic, either}
use Rattle.dsr_model_laws.proofs.Listed.{all_decided, is_none, known, less, numbers, some_one, those}
use Rattle.dsr_model_laws.proofs.Instances.{guard_decided, included}
use Rattle.dsr_model_laws.proofs.Models.{chains_decided}

module _ (spec : Spec) (layout : Layout) (bytes : List ℕ) where
  -- the premise is the head, or its set has the instance's record
  abbrev HasPremise : Instance → Rule → Type 0
  HasPremise i rule =
      (rule.premise ≡ None) ⊎ ((set : ℕ) × ((rule.premise ≡ Some set) × IsDerived spec layout bytes (Member set i.elem)))

  -- the instance fires, and gives some fact
  abbrev Fires : Instance → Rule → Type 0
  Fires i rule =
      IsInstance spec layout i rule
      × (All (GuardHolds spec layout bytes i) rule.guards × (HasPremise i rule × ((fact : Fact) × Includes spec layout bytes i rule.inc fact)))

  abbrev FiresBy : Instance → Rule → Type 0
  FiresBy i rule = (slice_get spec.rules i.rule ≡ Some rule) × Fires i rule

  premise_decided : (i : Instance) (rule : Rule) → IsDecided (HasPremise i rule)
  premise_decided i rule =
      either (is_none rule.premise)
      (some_one (λ (set : ℕ). (rule.premise ≡ Some set) × IsDerived spec layout bytes (Member set i.elem))
      (those (λ (set : ℕ). rule.premise ≡ Some set) (λ set. IsDerived spec layout bytes (Member set i.elem)) (known rule.premise) (λ set _. chains_decided spec layout bytes (Member set i.elem))))

  instance_decided : (i : Instance) (rule : Rule) → slice_get spec.rules i.rule ≡ Some rule → IsDecided (IsInstance spec layout i rule)
  instance_decided i rule rule_is =
      by_logic (λ (h : (i.elem.pool ≡ premise_pool spec rule) × ((i.elem.slot < record_count layout (premise_pool spec rule)) × (i.index < index_count layout rule.span))). record { rule_is = rule_is; pool_is = h.0; slot_below = h.1.0; index_below = h.1.1 })
      (λ h. (h.pool_is, (h.slot_below, h.index_below)))
      (both (numbers i.elem.pool (premise_pool spec rule)) (both (less i.elem.slot (record_count layout (premise_pool spec rule))) (less i.index (index_count layout rule.span))))

  fires_decided : (i : Instance) (rule : Rule) → slice_get spec.rules i.rule ≡ Some rule → IsDecided (Fires i rule)
  fires_decided i rule rule_is =
      both (instance_decided i rule rule_is) (both (all_decided (GuardHolds spec layout bytes i) (guard_decided spec layout bytes i) rule.guards)
      (both (premise_decided i rule) (some_one (Includes spec layout bytes i rule.inc) (included spec layout bytes i rule.inc))))

  -- what the last instance of a chain does
  abbrev LastFires : List Instance → Type 0
  LastFires [] = ⊥
  LastFires (i ∷ is) = (rule : Rule) × FiresBy i rule

  last_fires : {is : List Instance} {fact : Fact} → Chain spec layout bytes is fact → LastFires is
  last_fires {fact = fact} (begin i rule none g) = (rule, (g.is_instance.rule_is, (g.is_instance, (g.guards, (inl none, (fact, g.included))))))
  last_fires {fact = fact} (follow {is = js} i rule set chain some g) =
      (rule, (g.is_instance.rule_is, (g.is_instance, (g.guards, (inr (set, (some, (js, chain))), (fact, g.included))))))

  active : (i : Instance) → (rule : Rule) × FiresBy i rule → IsActive spec layout bytes i
  active i h =
      let fires = h.1.1 in
      let gives : Gives spec layout bytes i h.0 fires.1.1.1.0 = record { is_instance = fires.0; guards = fires.1.0; included = fires.1.1.1.1 } in
      elim fires.1.1.0 as (λ _. IsActive spec layout bytes i) [
        | inl none ↦ (fires.1.1.1.0, ([], begin i h.0 none gives))
        | inr some ↦ (fires.1.1.1.0, (some.1.1.0, follow i h.0 some.0 some.1.1.1 some.1.0 gives))
      ]

  pub active_decided : (i : Instance) → IsDecided (IsActive spec layout bytes i)
  active_decided i =
      by_logic (active i) (λ h. last_fires h.1.1)
      (some_one (FiresBy i) (those (λ (rule : Rule). slice_get spec.rules i.rule ≡ Some rule) (Fires i) (known (slice_get spec.rules i.rule)) (fires_decided i)))
