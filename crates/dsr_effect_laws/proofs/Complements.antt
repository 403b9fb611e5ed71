-- A complement gains what its base loses, and loses what that gains.
use Rattle.std.proofs.Common.{◌≡◌, ◌⊎◌, ℕ, List, Option, None, Some, inl, inr, refl, sym, subst}
use Rattle.dsr_repair_theory.specs.Changed.{IsGained, IsGainedBy}
use Rattle.dsr_ir.specs.declared.layouts.Layout.{Layout}
use Rattle.dsr_ir.specs.declared.tuples.Element.{Element}
use Rattle.dsr_ir.specs.declared.tuples.Fact.{Fact}
use Rattle.dsr_ir.specs.declared.tuples.Fact.TheVariants.{Member, Pair}
use Rattle.dsr_ir.specs.declared.tuples.Instance.{Instance}
use Rattle.dsr_meaning.specs.Models.{IsDerived, IsDerivedBy, IsInComplement, IsMemberBy, base_of}
use Rattle.dsr_step_theory.specs.declared.steps.Step.{Step}
use Rattle.dsr_update_theory.specs.Changes.{Change}
use Rattle.dsr_update_theory.specs.Effects.{InTable, other_direction}
use Rattle.dsr_update_theory.specs.Effects.InTable.{swapped}
use Rattle.dsr_ir.specs.declared.updates.Symbol.TheVariants.{Set}
use Rattle.dsr_update_theory.specs.declared.effects.Direction.{Direction}
use Rattle.dsr_update_theory.specs.declared.effects.Direction.TheVariants.{Gain, Loss}
use Rattle.dsr_effect_laws.specs.Allowed.{Lies}

back : (direction : Direction) → other_direction (other_direction direction) ≡ direction
back Gain = refl
back Loss = refl

-- from the one image to the other: what instances newly give, and what is derived no more, lies in the table
module _ (c : Change) (layout : Layout) (step : Step) (direction : Direction) (from to : List ℕ)
    (newly : (i : Instance) (fact : Fact) → IsDerivedBy c.spec layout to i fact → (IsDerivedBy c.spec layout from i fact → ⊥) → Lies c step direction fact)
    (gone : (fact : Fact) → IsDerived c.spec layout from fact → (IsDerived c.spec layout to fact → ⊥) → Lies c step (other_direction direction) fact)
    (decided : (fact : Fact) → IsDerived c.spec layout from fact ⊎ (IsDerived c.spec layout from fact → ⊥)) where
  turned : (set base : ℕ) (e : Element) → base_of c.spec set ≡ Some base → Lies c step (other_direction direction) (Member base e) → Lies c step direction (Member set e)
  turned set base e is l = record {
    tag = l.tag;
    listed = subst (λ d. InTable c d (Set set) l.tag) (back direction) (swapped set base (other_direction direction) l.tag is l.listed);
    allowed = l.allowed;
  }

  pub joined : (set base : ℕ) (e : Element) → base_of c.spec set ≡ Some base → IsInComplement c.spec layout to set base e → (IsInComplement c.spec layout from set base e → ⊥) → Lies c step direction (Member set e)
  joined set base e is there not = elim (decided (Member base e)) as (λ _. Lies c step direction (Member set e)) [
    | inl derived ↦ turned set base e is (gone (Member base e) derived there.outside)
    | inr outside ↦ absurd (not (record { pool_is = there.pool_is; slot_below = there.slot_below; outside = outside }))
  ]

  by_base : (set : ℕ) (e : Element) (o : Option ℕ) → base_of c.spec set ≡ o → IsGainedBy c.spec layout from to (Member set e) o → Lies c step direction (Member set e)
  by_base set e None is h = newly h.0 (Member set e) h.1 h.2
  by_base set e (Some base) is h =
      joined set base e is (subst (λ o. IsMemberBy c.spec layout to set o e) is h.0)
      (λ there. h.1 (subst (λ o. IsMemberBy c.spec layout from set o e) (sym is) there))

  pub gained : (fact : Fact) → IsGained c.spec layout from to fact → Lies c step direction fact
  gained (Member set e) h = by_base set e (base_of c.spec set) refl h
  gained (Pair rel e target) h = newly h.0 (Pair rel e target) h.1 h.2
