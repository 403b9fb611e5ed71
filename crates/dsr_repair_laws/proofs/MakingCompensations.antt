-- The writes that compensate an update can be made at the record that it writes.
use Rattle.std.proofs.Common.{◌≡◌, ◌<◌, ◌∙◌, ℕ, true, false, List, Option, None, Some, MatchBool, refl, sym, subst, slice_get, if◌then◌else◌, arith}
use Rattle.std.proofs.lemmas.Option.{same_Some}
use Rattle.dsr_repair_theory.specs.Choices.{IsPlace, IsUpdateAt}
use Rattle.dsr_ir.specs.declared.constraints.Atom.{Atom}
use Rattle.dsr_ir.specs.declared.constraints.Constraint.{Constraint}
use Rattle.dsr_ir.specs.declared.declarations.Spec.{Spec}
use Rattle.dsr_ir.specs.declared.layouts.Layout.{Layout}
use Rattle.dsr_ir.specs.declared.rules.Path.{Path}
use Rattle.dsr_ir.specs.declared.rules.Rule.{Rule}
use Rattle.dsr_ir.specs.declared.rules.Span.TheVariants.{Single}
use Rattle.dsr_ir.specs.declared.tuples.Instance.{Instance}
use Rattle.dsr_ir.specs.declared.updates.Template.{Template}
use Rattle.dsr_ir.specs.declared.updates.Update.{Update}
use Rattle.dsr_ir.specs.declared.updates.Write.{Write}
use Rattle.dsr_layout.specs.InRange.{IsRecordOf}
use Rattle.dsr_graph_theory.specs.Owners.{Owner}
use Rattle.dsr_meaning.specs.Consistency.{IsBinding}
use Rattle.dsr_meaning.specs.Instances.{IsInstance, index_count, premise_pool}
use Rattle.dsr_meaning.specs.Models.{IsFact}
use Rattle.dsr_meaning.specs.Refusals.{IsLayoutOf}
use Rattle.dsr_meaning.specs.Typed.{IsTyped, IsTypedPath, RunsOver}
use Rattle.dsr_step_theory.specs.declared.steps.Step.{Step}
use Rattle.dsr_update_theory.specs.Changes.{place_pool}
use Rattle.dsr_repair_laws.proofs.MakingCan.{IsMade, guard_made}
use Rattle.dsr_repair_laws.proofs.MakingEntries.{SameEntry}
use Rattle.dsr_repair_laws.proofs.MakingRecords.{of_rule}
use Rattle.dsr_repair_laws.proofs.Compensating.{compensating, only_compensated}
use Rattle.dsr_repair_laws.proofs.WrittenRecords.{placed}
use Rattle.dsr_repair_laws.specs.Grown.{Compensates}
use Rattle.dsr_meaning.proofs.Items.{place_of}

-- ---- the written record

module _ (spec : Spec) (bytes : List ℕ) (layout : Layout) (is : IsLayoutOf spec bytes layout) (typed : IsTyped spec) (step : Step) (number : ℕ) (c : Constraint) (bound : IsBinding (IsFact spec layout bytes) c.quant step.binding) where
  -- a path of a rule failed_from index has none
  single_entry : (rule : Rule) (k : ℕ) → rule.span ≡ Single → (path : Path) → IsTypedPath spec.base rule path → SameEntry step (record { rule = k; elem = step.elem; index = 0 }) path
  single_entry rule k single path its =
      elim path.indexed as (λ b. MatchBool b (RunsOver spec.base rule.span its.field.len) (its.field.len ≡ None) → (if b then 0 else 0) ≡ (if b then step.index else 0)) [
        | true ↦ λ runs. absurd (subst (λ s. RunsOver spec.base s its.field.len) single runs)
        | false ↦ λ _. refl
      ] its.index

  abbrev owner : Owner
  owner = record { spec = spec; number = number; constraint = c }

  -- each write that compensates an update of the constraint can be made
  pub compensation_made : (atom : Atom) (raw template : Template) (n : ℕ) (update u : Update) (stopped : Option Instance) → slice_get raw.updates n ≡ Some u → IsUpdateAt spec layout bytes step.binding atom template n update stopped
      → update.rule ≡ u.rule → IsPlace step.binding stopped u.place step.elem → (write : Write) → Compensates owner raw write → IsMade spec layout step write
  compensation_made atom raw template n update u stopped at chosen same place write compensates =
      let its = compensating owner raw write compensates in
      let rule = its.by.rule in
      let one : u ≡ its.update = (only_compensated raw.goal raw.updates its.update u n its.only at).same in
      let pool : place_pool spec c.quant u.rule u.place ≡ Some (premise_pool spec rule) = subst (λ (x : Update). place_pool spec c.quant x.rule x.place ≡ Some (premise_pool spec rule)) (sym one) its.by.may.touched.pool in
      let placed_at = placed spec bytes layout is.numbers typed step.binding c.quant bound atom template n update step.elem u.place stopped chosen place in
      let own_pool : place_pool spec c.quant u.rule u.place ≡ Some step.elem.pool = subst (λ k. place_pool spec c.quant k u.place ≡ Some step.elem.pool) same placed_at.pool_is in
      let there : IsRecordOf layout (premise_pool spec rule) step.elem = subst (λ p. IsRecordOf layout p step.elem) (same_Some step.elem.pool (premise_pool spec rule) (sym own_pool ∙ pool)) placed_at.of_pool in
      let k = place_of spec.rules rule its.by.among in
      let first : 0 < 1 = omega arith in
      let instance : IsInstance spec layout (record { rule = k.0; elem = step.elem; index = 0 }) rule = record {
        rule_is = k.1;
        pool_is = there.pool_is;
        slot_below = there.slot_below;
        index_below = subst (λ s. 0 < index_count layout s) (sym its.by.may.single) first;
      } in
      guard_made spec bytes layout is typed step (record { rule = k.0; elem = step.elem; index = 0 }) rule instance (of_rule spec typed k.0 rule k.1) refl (single_entry rule k.0 its.by.may.single) false its.by.guard write its.by.guard_in its.by.write_is
