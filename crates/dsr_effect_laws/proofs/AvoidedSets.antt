-- The fresh record is no member of an avoided set, and a quiet rule gives nothing at the written record.
use Rattle.std.proofs.Common.{◌≡◌, ◌<◌, ◌∙◌, ℕ, List, [], All, None, Some, inl, inr, refl, sym, ap, subst}
use Rattle.std.specs.Prelude.{IsSome, slice_get}
use Rattle.std.specs.Option.{option_and_then}
use Rattle.std.proofs.lemmas.Bool.{false≢true}
use Rattle.std.proofs.lemmas.Option.{same_Some, none-some}
use Rattle.dsr_ir.specs.Rules.{target_of}
use Rattle.dsr_ir.specs.declared.declarations.Field.{Field}
use Rattle.dsr_ir.specs.declared.declarations.Spec.{Spec}
use Rattle.dsr_ir.specs.declared.layouts.Layout.{Layout}
use Rattle.dsr_ir.specs.declared.rules.Inc.{Inc}
use Rattle.dsr_ir.specs.declared.rules.Inc.TheVariants.{Own, Target, Slot, OwnPair, SlotPair}
use Rattle.dsr_ir.specs.declared.rules.Path.{Path}
use Rattle.dsr_ir.specs.declared.rules.Rule.{Rule}
use Rattle.dsr_ir.specs.declared.tuples.Element.{Element}
use Rattle.dsr_ir.specs.declared.tuples.Fact.{Fact}
use Rattle.dsr_ir.specs.declared.tuples.Fact.TheVariants.{Member, Pair}
use Rattle.dsr_ir.specs.declared.tuples.Instance.{Instance}
use Rattle.dsr_ir.specs.declared.tuples.Target.{Target as TargetOf}
use Rattle.dsr_ir.specs.declared.tuples.Target.TheVariants.{Elem, Num}
use Rattle.dsr_ir.specs.declared.updates.Symbol.TheVariants.{Set}
use Rattle.dsr_meaning.specs.Counting.{IsIn}
use Rattle.dsr_meaning.specs.Instances.{Gives, GuardHolds, HasTarget, Includes, IsInstance, index_count, kind_pool, pool_of_premise, premise_pool, record_count}
use Rattle.dsr_meaning.specs.Models.{Chain, IsDerived, IsDerivedBy}
use Rattle.dsr_meaning.specs.Models.Chain.{begin, follow}
use Rattle.dsr_meaning.specs.Typed.{IsTypedInc, IsTypedRule, Reads}
use Rattle.dsr_step_theory.specs.declared.steps.Step.{Step}
use Rattle.dsr_update_theory.specs.Avoided.{IsAvoided}
use Rattle.dsr_update_theory.specs.Changes.{Change}
use Rattle.dsr_update_theory.specs.Givers.{IsGiver}
use Rattle.dsr_update_theory.specs.Touching.{AsksAllOf, IsQuiet}
use Rattle.dsr_effect_laws.specs.Judged.{IsSilent}
use Rattle.dsr_effect_laws.proofs.ChainChanges.{HasPremise}
use Rattle.dsr_effect_laws.proofs.GivenFacts.{own_subject, target_there}
use Rattle.dsr_step_laws.proofs.GivenSymbols.{giver_of}
use Rattle.dsr_meaning.proofs.Options.{some_and}
use Rattle.dsr_meaning.proofs.Items.{all_of, of_all}

module _ (spec : Spec) (layout : Layout) (bytes : List ℕ) where
  -- a record that is a member of no named set is one of no avoided set
  pub avoided_free : (avoid : List ℕ) (e : Element) → ((set : ℕ) → IsIn set avoid → IsDerived spec layout bytes (Member set e) → ⊥) → (set : ℕ) → IsAvoided spec avoid set → (is : List Instance) → Chain spec layout bytes is (Member set e) → ⊥
  avoided_free avoid e free set (IsAvoided.named s among) is chain = free s among (is, chain)
  avoided_free avoid e free set (IsAvoided.given s plain own rest) is (begin i rule none g) =
      let giver : IsGiver spec (Set s) i.rule rule = record { rule_is = g.is_instance.rule_is; gives = giver_of spec layout bytes i rule.inc (Member s e) g.included } in
      absurd (false≢true (subst IsSome none (own i.rule rule giver).premise))
  avoided_free avoid e free set (IsAvoided.given s plain own rest) is (follow {is = js} i rule premise chain some g) =
      let giver : IsGiver spec (Set s) i.rule rule = record { rule_is = g.is_instance.rule_is; gives = giver_of spec layout bytes i rule.inc (Member s e) g.included } in
      let elem : e ≡ i.elem = own_subject spec layout bytes i rule.inc (Member s e) g.included (own i.rule rule giver).own in
      avoided_free avoid e free premise (rest i.rule rule premise giver some) js (subst (λ x. Chain spec layout bytes js (Member premise x)) (sym elem) chain)

  -- ---- an inclusion whose target is there gives something

  reads_pool : (rule : Rule) (path : Path) (pool n : ℕ) (i : Instance) → Reads spec.base rule path (Some pool) → HasTarget spec layout bytes i path (Num n) → ⊥
  reads_pool rule path pool n i reads has =
      none-some pool (sym has.number ∙ (ap (option_and_then (λ (f : Field). kind_pool f.kind)) reads.typed.is_field.declared ∙ reads.kind))

  pub includes_by : (i : Instance) (rule : Rule) (inc : Inc) → IsTypedInc spec.base rule inc → ((path : Path) → target_of inc ≡ Some path → (t : TargetOf) × HasTarget spec layout bytes i path t) → (fact : Fact) × Includes spec layout bytes i inc fact
  includes_by i rule (Own set) typed target = (Member set i.elem, refl)
  includes_by i rule (Slot set pool) typed target = (Member set (record { pool = pool; slot = i.index }), refl)
  includes_by i rule (OwnPair rel path) typed target = let t = target path refl in (Pair rel i.elem t.0, (t.0, t.1, refl))
  includes_by i rule (SlotPair rel pool path) typed target = let t = target path refl in (Pair rel (record { pool = pool; slot = i.index }) t.0, (t.0, t.1, refl))
  includes_by i rule (Target set path) typed target = let t = target path refl in of_target t.0 t.1 where
    of_target : (t : TargetOf) → HasTarget spec layout bytes i path t → (fact : Fact) × Includes spec layout bytes i (Target set path) fact
    of_target (Elem e) leads = (Member set e, (e, leads, refl))
    of_target (Num n) has = absurd (reads_pool rule path typed.0 n i typed.2 has)

-- a chain that ends in an instance, whose premise has its record
pub derived_by : (spec : Spec) (layout : Layout) (bytes : List ℕ) (i : Instance) (rule : Rule) (fact : Fact) → Gives spec layout bytes i rule fact → HasPremise spec layout bytes rule i.elem → IsDerivedBy spec layout bytes i fact
derived_by spec layout bytes i rule fact g has =
    elim rule.premise as (λ o. rule.premise ≡ o → IsDerivedBy spec layout bytes i fact) [
      | None ↦ λ none. ([], begin i rule none g)
      | Some set ↦ λ some. let d = has set some in (d.0, follow i rule set d.1 some g)
    ] refl

module _ (c : Change) (layout : Layout) (step : Step) (old : List ℕ) (silent : IsSilent c layout step old) where
  -- what the rule asks the update's own rule asks, which so gives something where the rule does
  own_gives : (i : Instance) (rule : Rule) (fact : Fact) → IsTypedRule c.spec.base silent.own → AsksAllOf rule silent.own c.goal → i.elem ≡ step.elem → Gives c.spec layout old i rule fact → HasPremise c.spec layout old rule i.elem → ⊥
  own_gives i rule fact typed asks at g has =
      let j : Instance = record { rule = c.update.rule; elem = i.elem; index = i.index } in
      let own = silent.own in
      let pool : premise_pool c.spec rule ≡ premise_pool c.spec own = ap (pool_of_premise c.spec.base) asks.premise in
      let below : i.index < 1 = subst (λ s. i.index < index_count layout s) asks.single g.is_instance.index_below in
      let instance : IsInstance c.spec layout j own = record {
        rule_is = silent.own_is;
        pool_is = g.is_instance.pool_is ∙ pool;
        slot_below = subst (λ p. i.elem.slot < record_count layout p) pool g.is_instance.slot_below;
        index_below = subst (λ s. i.index < index_count layout s) (sym silent.single) below;
      } in
      let guards : All (GuardHolds c.spec layout old j) own.guards = all_of (GuardHolds c.spec layout old j) own.guards (λ guard is_in.
      let h = of_all (GuardHolds c.spec layout old i) rule.guards guard g.guards (asks.guards guard is_in) in
      record { value = h.value; read = h.read; met = h.met }) in
      let made = includes_by c.spec layout old j own own.inc typed.inc (λ path is. elim silent.plain as (λ _. (t : TargetOf) × HasTarget c.spec layout old j path t) [
        | inl none ↦ absurd (none-some path (sym none ∙ is))
        | inr supply ↦
            let t = target_there c.spec layout old i rule.inc fact path (asks.target supply ∙ is) g.included in
            (t.0, moved t.0 path t.1)
      ]) in
      let gives : Gives c.spec layout old j own made.0 = record { is_instance = instance; guards = guards; included = made.1 } in
      silent.gives_nothing j made.0 refl at
      (derived_by c.spec layout old j own made.0 gives (λ set is. has set (asks.premise ∙ is))) where
        moved : (t : TargetOf) (path : Path) → HasTarget c.spec layout old i path t → HasTarget c.spec layout old (record { rule = c.update.rule; elem = i.elem; index = i.index }) path t
        moved (Elem e) path leads = record { value = leads.value; read = leads.read; refers = leads.refers; code = leads.code }
        moved (Num n) path has = record { number = has.number; read = has.read }

  pub quiet_silent : (i : Instance) (rule : Rule) (fact : Fact) → IsTypedRule c.spec.base silent.own → IsQuiet c rule → i.elem ≡ step.elem → Gives c.spec layout old i rule fact → HasPremise c.spec layout old rule i.elem → ⊥
  quiet_silent i rule fact typed quiet at g has =
      let found = some_and (slice_get c.spec.rules c.update.rule) (λ own. AsksAllOf rule own c.goal) quiet.asks in
      let same : found.0 ≡ silent.own = same_Some found.0 silent.own (sym found.1.0 ∙ silent.own_is) in
      own_gives i rule fact typed (subst (λ own. AsksAllOf rule own c.goal) same found.1.1) at g has
