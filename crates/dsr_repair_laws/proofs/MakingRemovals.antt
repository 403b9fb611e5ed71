-- An update that takes a fact away writes at the record and the entry of the instance that it stops, and can be made.
use Rattle.std.proofs.Common.{◌≡◌, ◌<◌, ◌∙◌, ◌&&◌, ℕ, Bool, true, false, List, Option, None, Some, IfSome, IsSomeAnd, is_some, inl, inr, refl, sym, ap, subst, slice_get, if◌then◌else◌, arith}
use Rattle.std.proofs.lemmas.Option.{same_Some}
use Rattle.dsr_repair_theory.specs.Choices.{IsEntryAt, IsPlace}
use Rattle.dsr_ir.specs.declared.constraints.Atom.{Atom}
use Rattle.dsr_ir.specs.declared.constraints.Var.{Var}
use Rattle.dsr_ir.specs.declared.constraints.Var.TheVariants.{Head, First, Second}
use Rattle.dsr_ir.specs.declared.declarations.Spec.{Spec}
use Rattle.dsr_ir.specs.declared.layouts.Layout.{Layout}
use Rattle.dsr_ir.specs.declared.rules.Inc.{Inc}
use Rattle.dsr_ir.specs.declared.rules.Inc.TheVariants as incs
use Rattle.dsr_ir.specs.declared.rules.Rule.{Rule}
use Rattle.dsr_ir.specs.declared.tuples.Binding.{Binding}
use Rattle.dsr_ir.specs.declared.tuples.Element.{Element}
use Rattle.dsr_ir.specs.declared.tuples.Fact.{Fact}
use Rattle.dsr_ir.specs.declared.tuples.Instance.{Instance}
use Rattle.dsr_ir.specs.declared.updates.At.TheVariants as ats
use Rattle.dsr_ir.specs.declared.updates.Goal.{Goal}
use Rattle.dsr_ir.specs.declared.updates.Place.TheVariants as places
use Rattle.dsr_ir.specs.declared.updates.Update.{Update}
use Rattle.dsr_ir.specs.declared.updates.Write.{Write}
use Rattle.dsr_meaning.specs.Counting.{IsIn}
use Rattle.dsr_meaning.specs.Instances.{Gives, Includes, index_count, pool_of_premise, record_count}
use Rattle.dsr_meaning.specs.Models.{IsFact}
use Rattle.dsr_meaning.specs.Refusals.{IsLayoutOf}
use Rattle.dsr_meaning.specs.Truth.{element_of, head}
use Rattle.dsr_meaning.specs.Typed.{IsTyped}
use Rattle.dsr_step_theory.specs.declared.steps.Step.{Step}
use Rattle.dsr_update_theory.specs.Givers.{is_own, is_single, is_slot}
use Rattle.dsr_update_theory.specs.Options.{options}
use Rattle.dsr_update_theory.specs.Templates.{removal_at, removal_place}
use Rattle.dsr_repair_laws.proofs.MakingCan.{IsMade, option_made}
use Rattle.dsr_repair_laws.proofs.LastGiven.{given_by}
use Rattle.dsr_repair_laws.proofs.RawUpdates.{IsStopChosen}
use Rattle.dsr_repair_laws.proofs.ToGoFacts.{source_of, to_go_source}
use Rattle.dsr_repair_laws.proofs.TriedTemplates.{single_span}
use Rattle.dsr_repair_laws.proofs.TriedUpdates.{taken_var}
use Rattle.dsr_step_laws.proofs.HeadRules.{only_head}
use Rattle.dsr_repair_laws.proofs.MakingRecords.{of_rule}

module _ (spec : Spec) (layout : Layout) (bytes : List ℕ) (i : Instance) (rule : Rule) (fact : Fact) (gives : Gives spec layout bytes i rule fact) where
  -- where the rule gives the record itself, that is the source; and a slot is the one at the index
  own_elem : (inc : Inc) → Includes spec layout bytes i inc fact → is_own inc ≡ true → source_of fact ≡ i.elem
  own_elem (incs.Own set) included own = ap source_of included
  own_elem (incs.OwnPair rel path) included own = ap source_of included.2
  own_elem (incs.Target set path) included own = absurd cc
  own_elem (incs.Slot set pool) included own = absurd cc
  own_elem (incs.SlotPair rel pool path) included own = absurd cc

  slot_index : (inc : Inc) → Includes spec layout bytes i inc fact → is_slot inc ≡ true → (source_of fact).slot ≡ i.index
  slot_index (incs.Slot set pool) included slot = ap (λ f. (source_of f).slot) included
  slot_index (incs.SlotPair rel pool path) included slot = ap (λ f. (source_of f).slot) included.2
  slot_index (incs.Own set) included slot = absurd cc
  slot_index (incs.OwnPair rel path) included slot = absurd cc
  slot_index (incs.Target set path) included slot = absurd cc

  -- the record of the instance is the head, where the rule has no premise
  head_elem : rule.premise ≡ None → head ≡ i.elem
  head_elem premise = sym (only_head layout i.elem (record {
    pool_is = gives.is_instance.pool_is ∙ ap (pool_of_premise spec.base) premise;
    slot_below = subst (λ p. i.elem.slot < record_count layout (pool_of_premise spec.base p)) premise gives.is_instance.slot_below;
  }))

  module _ (b : Binding) (e : Element) where
    -- the record of the head or of the instance is that of the instance
    rest_place : IsPlace b (Some i) (if is_some rule.premise then places.Deriver else places.Head) e → e ≡ i.elem
    rest_place at =
        elim rule.premise as (λ o. rule.premise ≡ o → IsPlace b (Some i) (if is_some o then places.Deriver else places.Head) e → e ≡ i.elem) [
          | None ↦ λ premise is_head. is_head ∙ head_elem premise
          | Some set ↦ λ _ is_elem. is_elem
        ] refl at

    named_place : (v : Var) → element_of b v ≡ Some (source_of fact) → IsPlace b (Some i) (if is_own rule.inc then places.Of v else (if is_some rule.premise then places.Deriver else places.Head)) e → e ≡ i.elem
    named_place v named at =
        elim (is_own rule.inc) as (λ t. is_own rule.inc ≡ t → IsPlace b (Some i) (if t then places.Of v else (if is_some rule.premise then places.Deriver else places.Head)) e → e ≡ i.elem) [
          | true ↦ λ own is_var. same_Some e (source_of fact) (sym is_var ∙ named) ∙ own_elem rule.inc gives.included own
          | false ↦ λ _ other. rest_place other
        ] refl at

    removal_elem : (v : Option Var) → IfSome v (λ x. element_of b x ≡ Some (source_of fact)) → IsPlace b (Some i) (removal_place v rule) e → e ≡ i.elem
    removal_elem None named at = rest_place at
    removal_elem (Some Head) named at = rest_place at
    removal_elem (Some First) named at = named_place First named at
    removal_elem (Some Second) named at = named_place Second named at

  module _ (b : Binding) (k : ℕ) where
    rest_entry : IsEntryAt b (Some i) (if is_single rule.span then ats.Scalar else ats.Deriver) k → k ≡ i.index
    rest_entry at =
        elim (is_single rule.span) as (λ t. is_single rule.span ≡ t → IsEntryAt b (Some i) (if t then ats.Scalar else ats.Deriver) k → k ≡ i.index) [
          | true ↦ λ single none.
              let below : i.index < 1 = subst (λ s. i.index < index_count layout s) (single_span rule.span single) gives.is_instance.index_below in
              omega (arith, below, none)
          | false ↦ λ _ is_index. is_index
        ] refl at

    slot_entry : (o : Option Element) → o ≡ Some (source_of fact) → is_slot rule.inc ≡ true → IsSomeAnd o (λ e. k ≡ e.slot) → k ≡ i.index
    slot_entry None named slot at = absurd at
    slot_entry (Some e) named slot at = at ∙ (ap (λ (x : Element). x.slot) (same_Some e (source_of fact) named) ∙ slot_index rule.inc gives.included slot)

    removal_entry : (v : Option Var) → IfSome v (λ x. element_of b x ≡ Some (source_of fact)) → IsEntryAt b (Some i) (removal_at v rule) k → k ≡ i.index
    removal_entry None named at = unslotted (is_slot rule.inc) at where
      unslotted : (t : Bool) → IsEntryAt b (Some i) (if t && false then ats.Deriver else (if is_single rule.span then ats.Scalar else ats.Deriver)) k → k ≡ i.index
      unslotted true entry = rest_entry entry
      unslotted false entry = rest_entry entry
    removal_entry (Some v) named at =
        elim (is_slot rule.inc) as (λ t. is_slot rule.inc ≡ t → IsEntryAt b (Some i) (if t && true then ats.SlotOf v else (if is_single rule.span then ats.Scalar else ats.Deriver)) k → k ≡ i.index) [
          | true ↦ λ slot entry. slot_entry (element_of b v) named slot entry
          | false ↦ λ _ entry. rest_entry entry
        ] refl at

-- ---- the instance that is stopped

-- it gives the fact that is to go, by the update's rule, and is at the written record and entry
pub record IsStoppedAt (spec : Spec) (layout : Layout) (bytes : List ℕ) (step : Step) (fact : Fact) (instance : Instance) (rule : Rule) : Type 0 where
  pub gives : Gives spec layout bytes instance rule fact
  pub elem : step.elem ≡ instance.elem
  pub index : step.index ≡ instance.index

module _ (spec : Spec) (layout : Layout) (bytes : List ℕ) (step : Step) (goal : Goal) (atom : Atom) (n : ℕ) (u update : Update) (stopped : Option Instance) (s : IsStopChosen spec layout bytes step.binding goal atom n u update stopped) (rule_same : update.rule ≡ u.rule) (place : IsPlace step.binding stopped u.place step.elem) (entry : IsEntryAt step.binding stopped u.at step.index) where
  abbrev rule : Rule
  rule = s.removing.rule

  pub stopped_at : IsStoppedAt spec layout bytes step s.fact s.instance rule
  stopped_at =
      let gives = given_by spec layout bytes s.instance s.fact rule (ap (slice_get spec.rules) (sym s.rule_same ∙ rule_same) ∙ s.removing.giver.rule_is) s.derived in
      let named = to_go_source step.binding (IsFact spec layout bytes) atom s.fact s.to_go in
      record {
        gives = gives;
        elem = removal_elem spec layout bytes s.instance rule s.fact gives step.binding step.elem (taken_var atom) named
            (subst (λ p. IsPlace step.binding (Some s.instance) p step.elem) s.removing.place_is (subst (λ o. IsPlace step.binding o u.place step.elem) s.stopped_is place));
        index = removal_entry spec layout bytes s.instance rule s.fact gives step.binding step.index (taken_var atom) named
            (subst (λ a. IsEntryAt step.binding (Some s.instance) a step.index) s.removing.at_is (subst (λ o. IsEntryAt step.binding o u.at step.index) s.stopped_is entry));
      }

  -- each write of such an update can be made
  pub removal_made : IsLayoutOf spec bytes layout → IsTyped spec → (write : Write) → IsIn write u.writes → IsMade spec layout step write
  removal_made is typed write is_in =
      let at = stopped_at in
      let instance = at.gives.is_instance in
      let option : IsIn write (options spec.base rule) = elim (subst (IsIn write) s.removing.writes_are is_in) as (λ _. IsIn write (options spec.base rule)) [
        | inl one ↦ subst (λ w. IsIn w (options spec.base rule)) (sym one) s.removing.option
        | inr none ↦ absurd none
      ] in
      option_made spec bytes layout is typed step s.instance rule instance (of_rule spec typed s.instance.rule rule instance.rule_is) (sym at.elem)
      (λ path its. ap (λ k. if path.indexed then k else 0) (sym at.index)) write option
