-- Where an update takes a fact away, what its write wants doesn't hold before: the instance that it stops gives something.
use Rattle.std.proofs.Common.{◌≡◌, ◌∙◌, ℕ, false, List, ◌∷◌, [], None, Some, inl, inr, refl, sym, ap, subst}
use Rattle.std.specs.List.{filter_map}
use Rattle.std.specs.Option.{option_and_then, option_map_or}
use Rattle.std.specs.Prelude.{option_map}
use Rattle.std.proofs.lemmas.Option.{same_Some}
use Rattle.dsr_ir.specs.Rules.{target_of}
use Rattle.dsr_ir.specs.declared.layouts.Layout.{Layout}
use Rattle.dsr_ir.specs.declared.rules.Guard.{Guard}
use Rattle.dsr_ir.specs.declared.rules.Path.{Path}
use Rattle.dsr_ir.specs.declared.rules.Rule.{Rule}
use Rattle.dsr_ir.specs.declared.tuples.Fact.{Fact}
use Rattle.dsr_ir.specs.declared.tuples.Instance.{Instance}
use Rattle.dsr_ir.specs.declared.updates.Pick.TheVariants as picks
use Rattle.dsr_ir.specs.declared.updates.Write.{Write}
use Rattle.dsr_effect_laws.specs.Fitting.{IsAlwaysMade}
use Rattle.dsr_meaning.specs.Cells.{cell_value, value_at}
use Rattle.dsr_meaning.specs.Counting.{IsIn}
use Rattle.dsr_meaning.specs.Instances.{Gives, GuardHolds, Meets, referred_pool}
use Rattle.dsr_step_laws.proofs.GuardWrites.{guard_written}
use Rattle.dsr_step_laws.proofs.ReferenceWrites.{reference_written}
use Rattle.dsr_step_theory.specs.declared.steps.Step.{Step}
use Rattle.dsr_update_theory.specs.Changes.{Change}
use Rattle.dsr_update_theory.specs.Guards.{guard_write}
use Rattle.dsr_update_theory.specs.Options.{options, reference_write, target_option}
use Rattle.dsr_meaning.proofs.Items.{in_either, in_filter, of_all}
use Rattle.dsr_meaning.proofs.Options.{chained_from}

module _ (c : Change) (layout : Layout) (step : Step) (old : List ℕ) (i : Instance) (rule : Rule) (fact : Fact) (gives : Gives c.spec layout old i rule fact) (elem : step.elem ≡ i.elem) (index : step.index ≡ i.index) where
  -- a guard of the instance holds, so that it isn't false already
  guard_always : (guard : Guard) (write : Write) → IsIn guard rule.guards → guard_write c.spec.base false guard ≡ Some write → IsAlwaysMade c layout step old write
  guard_always guard write is_in e =
      let by = guard_written c.spec.base false guard write e in
      subst (IsAlwaysMade c layout step old) (sym by.is) (λ cell number at number_is wanted.
      let h = of_all (GuardHolds c.spec layout old i) rule.guards guard gives.guards is_in in
      let now : value_at layout old step.elem step.index guard.path ≡ Some (cell_value old cell) = ap (option_map (cell_value old)) at in
      let read : value_at layout old step.elem step.index guard.path ≡ Some h.value =
      subst (λ x. value_at layout old x step.index guard.path ≡ Some h.value) (sym elem)
      (subst (λ k. value_at layout old i.elem k guard.path ≡ Some h.value) (sym index) h.read) in
      let same : h.value ≡ cell_value old cell = same_Some h.value (cell_value old cell) (sym read ∙ now) in
      absurd (wanted (subst (Meets layout (referred_pool c.spec guard.path.field) guard.test) same h.met)))

  target_always : (path : Path) (write : Write) → reference_write c.spec.base picks.NoneCode path ≡ Some write → IsAlwaysMade c layout step old write
  target_always path write e =
      let by = reference_written c.spec picks.NoneCode path write e in
      subst (IsAlwaysMade c layout step old) (sym by.is) (λ cell number at number_is wanted. wanted)

  pub option_always : (write : Write) → IsIn write (options c.spec.base rule) → IsAlwaysMade c layout step old write
  option_always write is_in = elim (in_either write (filter_map (guard_write c.spec.base false) rule.guards) (target_option c.spec.base rule) is_in) as (λ _. IsAlwaysMade c layout step old write) [
    | inl of_guards ↦
        let found = in_filter (guard_write c.spec.base false) rule.guards write of_guards in
        guard_always found.from write found.among found.is
    | inr of_target ↦ elim (option_and_then (reference_write c.spec.base picks.NoneCode) (target_of rule.inc)) as (λ o. option_and_then (reference_write c.spec.base picks.NoneCode) (target_of rule.inc) ≡ o → IsIn write (option_map_or (λ w. w ∷ []) o []) → IsAlwaysMade c layout step old write) [
      | None ↦ λ _ no. absurd no
      | Some w ↦ λ e found. elim found as (λ _. IsAlwaysMade c layout step old write) [
        | inl here ↦
            let from = chained_from (reference_write c.spec.base picks.NoneCode) (target_of rule.inc) w e in
            target_always from.0 write (from.1.1 ∙ ap Some (sym here))
        | inr none ↦ absurd none
      ]
    ] refl of_target
  ]
