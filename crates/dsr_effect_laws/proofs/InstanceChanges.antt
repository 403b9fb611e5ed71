-- What an instance gives on the one image alone lies in the table.
use Rattle.std.proofs.Common.{◌≡◌, ◌⊎◌, ◌∙◌, ℕ, Bool, true, false, List, None, Some, inl, inr, refl, sym, ap, subst}
use Rattle.std.specs.Prelude.{IsSomeAnd, ◌&&◌, if◌then◌else◌}
use Rattle.dsr_ir.specs.Rules as rules
use Rattle.dsr_ir.specs.declared.layouts.Layout.{Layout}
use Rattle.dsr_ir.specs.declared.rules.Inc.{Inc}
use Rattle.dsr_ir.specs.declared.rules.Inc.TheVariants.{Own, Target, Slot, OwnPair, SlotPair}
use Rattle.dsr_ir.specs.declared.rules.Path.{Path}
use Rattle.dsr_ir.specs.declared.rules.Rule.{Rule}
use Rattle.dsr_ir.specs.declared.tuples.Element.{Element}
use Rattle.dsr_ir.specs.declared.tuples.Fact.{Fact}
use Rattle.dsr_ir.specs.declared.tuples.Fact.TheVariants.{Member}
use Rattle.dsr_ir.specs.declared.tuples.Instance.{Instance}
use Rattle.dsr_ir.specs.declared.updates.Place.TheVariants as places
use Rattle.dsr_meaning.specs.Counting.{IsIn}
use Rattle.dsr_meaning.specs.Instances.{Gives, Includes, LeadsTo, pool_of_premise}
use Rattle.dsr_meaning.specs.Models.{IsDerived, IsDerivedBy}
use Rattle.dsr_meaning.specs.Typed.{IsTypedRule}
use Rattle.dsr_step_theory.specs.declared.steps.Step.{Step}
use Rattle.dsr_update_theory.specs.Avoided.{IsAvoided}
use Rattle.dsr_update_theory.specs.Changes.{Change, fresh_pool, is_at_entry}
use Rattle.dsr_update_theory.specs.Effects.{InTable, IsLeftOut, gets_fresh, is_gain, tag_at_f, tag_at_w, tag_passed}
use Rattle.dsr_update_theory.specs.Effects.InTable.{touched, passed}
use Rattle.dsr_update_theory.specs.Effects.MayChange.{gain_at_f, gain_at_w, loss_at_f, loss_at_w}
use Rattle.dsr_update_theory.specs.Touching.{IsKeptApartBy, IsTouchedAtF, IsTouchedAtW, StaysAtW, named_by}
use Rattle.dsr_update_theory.specs.declared.effects.Direction.{Direction}
use Rattle.dsr_update_theory.specs.declared.effects.Direction.TheVariants.{Gain, Loss}
use Rattle.dsr_update_theory.specs.declared.effects.Tag.{Tag}
use Rattle.dsr_update_theory.specs.declared.effects.Tag.TheVariants.{Written, Entry, Fresh, Any}
use Rattle.dsr_effect_laws.specs.Allowed.{Allows, Lies, subject_of}
use Rattle.dsr_effect_laws.specs.Judged.{IsMadeAsJudged}
use Rattle.dsr_effect_laws.proofs.AvoidedSets.{avoided_free, quiet_silent}
use Rattle.dsr_effect_laws.proofs.ChainChanges.{HasPremise, changed, derived_changed}
use Rattle.dsr_effect_laws.proofs.GivenFacts.{gives_same}
use Rattle.dsr_step_laws.proofs.GivenSymbols.{symbol_is}
use Rattle.dsr_effect_laws.proofs.RulePaths.{in_target}
use Rattle.dsr_effect_laws.proofs.GuardsAfter.{IsAtW, not_blocked, not_blocked_fresh, stays_fresh, unmoved_gives}
use Rattle.dsr_effect_laws.proofs.TouchedInstances.{IsTouchedThere, placed}
use Rattle.dsr_effect_laws.proofs.TestedValues.{AreTold}
use Rattle.dsr_meaning.proofs.Items.{item_at, of_all}

module _ (c : Change) (layout : Layout) (step : Step) (old new : List ℕ) (made : IsMadeAsJudged c layout step old new) (told : AreTold layout) where
  -- ---- in the table

  abbrev Listed : Direction → Rule → Tag → Type 0
  Listed direction rule tag = InTable c direction (rules.symbol_of rule.inc) tag

  lies_by : (direction : Direction) (bytes : List ℕ) (i : Instance) (rule : Rule) (fact : Fact) (tag : Tag) → Includes c.spec layout bytes i rule.inc fact → Listed direction rule tag → Allows step tag (subject_of fact) → Lies c step direction fact
  lies_by direction bytes i rule fact tag h listed allowed = record {
    tag = tag;
    listed = subst (λ s. InTable c direction s tag) (sym (symbol_is c.spec layout bytes i rule.inc fact h)) listed;
    allowed = allowed;
  }

  among : (bytes : List ℕ) (i : Instance) (rule : Rule) (fact : Fact) → Gives c.spec layout bytes i rule fact → IsIn rule c.spec.rules
  among bytes i rule fact g = item_at c.spec.rules i.rule rule g.is_instance.rule_is

  of_rule : (bytes : List ℕ) (i : Instance) (rule : Rule) (fact : Fact) → Gives c.spec layout bytes i rule fact → IsTypedRule c.spec.base rule
  of_rule bytes i rule fact g = of_all (IsTypedRule c.spec.base) c.spec.rules rule made.typed.rules (among bytes i rule fact g)

  -- ---- tags

  abbrev TagFits : Direction → Rule → Inc → Fact → Type 0
  TagFits direction rule inc fact = Allows step (tag_at_w c rule direction inc) (subject_of fact)

  slot_fits : (rule : Rule) (i : Instance) (e : Element) → IsAtW c step rule i → e.slot ≡ i.index → Allows step (if is_at_entry c rule then Entry else Any) e
  slot_fits rule i e at slot = elim (is_at_entry c rule) as (λ b. is_at_entry c rule ≡ b → Allows step (if b then Entry else Any) e) [
    | true ↦ λ entry. slot ∙ at.index entry
    | false ↦ λ _. tt
  ] refl

  -- of an instance at the written record
  fits_at_w : (direction : Direction) (bytes : List ℕ) (i : Instance) (rule : Rule) (inc : Inc) (fact : Fact) → IsAtW c step rule i → ((path : Path) (e : Element) → rules.target_of inc ≡ Some path → is_gain direction ≡ true → gets_fresh c path.field ≡ true → LeadsTo c.spec layout bytes i path e → step.fresh ≡ Some e) → Includes c.spec layout bytes i inc fact → TagFits direction rule inc fact
  fits_at_w direction bytes i rule (Own set) fact at fresh h = ap subject_of h ∙ at.at
  fits_at_w direction bytes i rule (OwnPair rel path) fact at fresh h = ap subject_of h.2 ∙ at.at
  fits_at_w direction bytes i rule (Slot set pool) fact at fresh h = slot_fits rule i (subject_of fact) at (ap (λ (f : Fact). (subject_of f).slot) h)
  fits_at_w direction bytes i rule (SlotPair rel pool path) fact at fresh h = slot_fits rule i (subject_of fact) at (ap (λ (f : Fact). (subject_of f).slot) h.2)
  fits_at_w direction bytes i rule (Target set path) fact at fresh h = by_test (is_gain direction) refl (gets_fresh c path.field) refl where
    by_test : (gain : Bool) → is_gain direction ≡ gain → (gets : Bool) → gets_fresh c path.field ≡ gets → Allows step (if gain && gets then Fresh else Any) (subject_of fact)
    by_test true is true gets = fresh path h.0 refl is gets h.1 ∙ ap Some (sym (ap subject_of h.2))
    by_test true is false gets = tt
    by_test false is gets e = tt

  fits_at_f : (bytes : List ℕ) (i : Instance) (inc : Inc) (fact : Fact) → step.fresh ≡ Some i.elem → Includes c.spec layout bytes i inc fact → Allows step (tag_at_f inc) (subject_of fact)
  fits_at_f bytes i (Own set) fact fresh h = fresh ∙ ap Some (sym (ap subject_of h))
  fits_at_f bytes i (OwnPair rel path) fact fresh h = fresh ∙ ap Some (sym (ap subject_of h.2))
  fits_at_f bytes i (Target set path) fact fresh h = tt
  fits_at_f bytes i (Slot set pool) fact fresh h = tt
  fits_at_f bytes i (SlotPair rel pool path) fact fresh h = tt

  fits_passed : (bytes : List ℕ) (i : Instance) (inc : Inc) (fact : Fact) (tag : Tag) → Allows step tag i.elem → Includes c.spec layout bytes i inc fact → Allows step (tag_passed inc tag) (subject_of fact)
  fits_passed bytes i (Own set) fact tag a h = subst (Allows step tag) (sym (ap subject_of h)) a
  fits_passed bytes i (OwnPair rel path) fact tag a h = subst (Allows step tag) (sym (ap subject_of h.2)) a
  fits_passed bytes i (Target set path) fact tag a h = tt
  fits_passed bytes i (Slot set pool) fact tag a h = tt
  fits_passed bytes i (SlotPair rel pool path) fact tag a h = tt

  -- ---- touched

  kept_apart : (i : Instance) (rule : Rule) → i.elem ≡ step.elem → HasPremise c.spec layout old rule i.elem → IsKeptApartBy c c.update.place rule.premise → ⊥
  kept_apart i rule at has =
      elim rule.premise as (λ o. rule.premise ≡ o → IsKeptApartBy c c.update.place o → ⊥) [
        | None ↦ λ _ kept. no_premise kept
        | Some set ↦ λ some kept. made.apart set kept (subst (λ e. IsDerived c.spec layout old (Member set e)) at (has set some))
      ] refl where
        no_premise : IsKeptApartBy c c.update.place None → ⊥
        no_premise = elim c.update.place as (λ p. IsKeptApartBy c p None → ⊥) [ places.Head ↦ λ k. k | places.Of v ↦ λ k. k | places.Deriver ↦ λ k. k ]

  touched_at_w : (bytes : List ℕ) (i : Instance) (rule : Rule) (fact : Fact) → Gives c.spec layout bytes i rule fact → IsTouchedThere c step i rule → HasPremise c.spec layout old rule i.elem → IsTouchedAtW c rule
  touched_at_w bytes i rule fact g there has = record {
    pool = made.pool_is ∙ ap Some (sym (ap (λ (e : Element). e.pool) there.at_w.at) ∙ g.is_instance.pool_is);
    reads = there.reads;
    apart = kept_apart i rule there.at_w.at has;
  }

  touched_at_f : (bytes : List ℕ) (i : Instance) (rule : Rule) (fact : Fact) → Gives c.spec layout bytes i rule fact → step.fresh ≡ Some i.elem → HasPremise c.spec layout old rule i.elem → IsTouchedAtF c rule
  touched_at_f bytes i rule fact g fresh has =
      let taken = made.fresh i.elem fresh in
      record {
        pool = taken.pool_is ∙ ap Some g.is_instance.pool_is;
        premise = elim rule.premise as (λ o. rule.premise ≡ o → IsSomeAnd o (λ set. IsAvoided c.spec (named_by (fresh_pool c)) set → ⊥)) [
          | None ↦ λ none. taken.some (g.is_instance.pool_is ∙ ap (pool_of_premise c.spec.base) none)
          | Some set ↦ λ some avoided. let d = has set some in avoided_free c.spec layout old (named_by (fresh_pool c)) i.elem taken.outside set avoided d.0 d.1
        ] refl;
      }

  -- ---- gains

  gains_there : (i : Instance) (rule : Rule) (fact : Fact) → Gives c.spec layout new i rule fact → (Gives c.spec layout old i rule fact → ⊥) → HasPremise c.spec layout new rule i.elem → HasPremise c.spec layout old rule i.elem → Lies c step Gain fact
  gains_there i rule fact g not has_new has = elim (placed c layout step old new made.left i rule g.is_instance) as (λ _. Lies c step Gain fact) [
    | inl same ↦ absurd (not (gives_same c.spec layout new old i rule fact (λ path is_in. sym (same path is_in)) g))
    | inr (inl there) ↦
        lies_by Gain new i rule fact (tag_at_w c rule Gain rule.inc) g.included
        (touched rule Gain (tag_at_w c rule Gain rule.inc) (among new i rule fact g)
        (gain_at_w (touched_at_w new i rule fact g there has)
        (not_blocked c layout step old new told made.left i rule g.is_instance (of_rule new i rule fact g) false there.at_w.at (λ _. there.at_w.index) fact g)))
        (fits_at_w Gain new i rule rule.inc fact there.at_w (λ path e is _ gets leads. made.left.given_fresh i rule path e (record { instance = g.is_instance; among = in_target rule path is }) there.at_w.at gets leads) g.included)
    | inr (inr fresh) ↦
        lies_by Gain new i rule fact (tag_at_f rule.inc) g.included
        (touched rule Gain (tag_at_f rule.inc) (among new i rule fact g)
        (gain_at_f (touched_at_f new i rule fact g fresh has)
        (not_blocked_fresh c layout step old new told made.left i rule g.is_instance (of_rule new i rule fact g) fresh fact g)))
        (fits_at_f new i rule.inc fact fresh g.included)
  ]

  left_out : (i : Instance) (rule : Rule) (fact : Fact) (tag : Tag) → Gives c.spec layout new i rule fact → Allows step tag i.elem → IsLeftOut c rule Gain tag → ⊥
  left_out i rule fact Written g at out = not_blocked c layout step old new told made.left i rule g.is_instance (of_rule new i rule fact g) true at (λ (no : true ≡ false). absurd cc) fact g out
  left_out i rule fact Fresh g fresh out = not_blocked_fresh c layout step old new told made.left i rule g.is_instance (of_rule new i rule fact g) fresh fact g out
  left_out i rule fact Entry g a out = out
  left_out i rule fact Any g a out = out

  gains_passed : (i : Instance) (rule : Rule) (set : ℕ) (fact : Fact) → Gives c.spec layout new i rule fact → rule.premise ≡ Some set → Lies c step Gain (Member set i.elem) → Lies c step Gain fact
  gains_passed i rule set fact g some l =
      lies_by Gain new i rule fact (tag_passed rule.inc l.tag) g.included
      (passed rule set Gain l.tag (among new i rule fact g) some l.listed (left_out i rule fact l.tag g l.allowed))
      (fits_passed new i rule.inc fact l.tag l.allowed g.included)

  -- ---- losses

  no_stay : (i : Instance) (rule : Rule) (fact : Fact) → Gives c.spec layout old i rule fact → (Gives c.spec layout new i rule fact → ⊥) → HasPremise c.spec layout old rule i.elem → IsTouchedThere c step i rule → StaysAtW c rule → ⊥
  no_stay i rule fact g not has there (inl quiet) =
      let silent = made.silent quiet.goal in
      let own = of_all (IsTypedRule c.spec.base) c.spec.rules silent.own made.typed.rules (item_at c.spec.rules c.update.rule silent.own silent.own_is) in
      quiet_silent c layout step old silent i rule fact own quiet there.at_w.at g has
  no_stay i rule fact g not has there (inr unmoved) =
      not (unmoved_gives c layout step old new told made.left i rule g.is_instance (of_rule old i rule fact g) there.at_w unmoved fact g)

  losses_there : (i : Instance) (rule : Rule) (fact : Fact) → Gives c.spec layout old i rule fact → (Gives c.spec layout new i rule fact → ⊥) → HasPremise c.spec layout old rule i.elem → HasPremise c.spec layout new rule i.elem → Lies c step Loss fact
  losses_there i rule fact g not has has_new = elim (placed c layout step old new made.left i rule g.is_instance) as (λ _. Lies c step Loss fact) [
    | inl same ↦ absurd (not (gives_same c.spec layout old new i rule fact same g))
    | inr (inl there) ↦
        lies_by Loss old i rule fact (tag_at_w c rule Loss rule.inc) g.included
        (touched rule Loss (tag_at_w c rule Loss rule.inc) (among old i rule fact g)
        (loss_at_w (touched_at_w old i rule fact g there has) (no_stay i rule fact g not has there)))
        (fits_at_w Loss old i rule rule.inc fact there.at_w (λ path e is (no : false ≡ true) gets leads. absurd cc) g.included)
    | inr (inr fresh) ↦
        lies_by Loss old i rule fact (tag_at_f rule.inc) g.included
        (touched rule Loss (tag_at_f rule.inc) (among old i rule fact g)
        (loss_at_f (touched_at_f old i rule fact g fresh has)
        (λ stays. not (stays_fresh c layout step old new told made.left i rule g.is_instance (of_rule old i rule fact g) fresh stays fact g))))
        (fits_at_f old i rule.inc fact fresh g.included)
  ]

  losses_passed : (i : Instance) (rule : Rule) (set : ℕ) (fact : Fact) → Gives c.spec layout old i rule fact → rule.premise ≡ Some set → Lies c step Loss (Member set i.elem) → Lies c step Loss fact
  losses_passed i rule set fact g some l =
      lies_by Loss old i rule fact (tag_passed rule.inc l.tag) g.included
      (passed rule set Loss l.tag (among old i rule fact g) some l.listed (λ no. no))
      (fits_passed old i rule.inc fact l.tag l.allowed g.included)

  -- ---- both ways

  module _ (decided : (bytes : List ℕ) (fact : Fact) → IsDerived c.spec layout bytes fact ⊎ (IsDerived c.spec layout bytes fact → ⊥)) where
    pub newly_given : (i : Instance) (fact : Fact) → IsDerivedBy c.spec layout new i fact → (IsDerivedBy c.spec layout old i fact → ⊥) → Lies c step Gain fact
    newly_given = changed c.spec layout new old (Lies c step Gain) (decided old) gains_there gains_passed

    pub newly_derived : (fact : Fact) → IsDerived c.spec layout new fact → (IsDerived c.spec layout old fact → ⊥) → Lies c step Gain fact
    newly_derived = derived_changed c.spec layout new old (Lies c step Gain) (decided old) gains_there gains_passed

    pub no_more_given : (i : Instance) (fact : Fact) → IsDerivedBy c.spec layout old i fact → (IsDerivedBy c.spec layout new i fact → ⊥) → Lies c step Loss fact
    no_more_given = changed c.spec layout old new (Lies c step Loss) (decided new) losses_there losses_passed

    pub no_more_derived : (fact : Fact) → IsDerived c.spec layout old fact → (IsDerived c.spec layout new fact → ⊥) → Lies c step Loss fact
    no_more_derived = derived_changed c.spec layout old new (Lies c step Loss) (decided new) losses_there losses_passed
