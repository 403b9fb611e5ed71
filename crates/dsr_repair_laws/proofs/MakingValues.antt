-- An update that sets a value writes in the record of the variable, or in the head at its slot, and the value fits.
use Rattle.std.proofs.Common.{true, ◌≡◌, ◌<◌, ◌≤◌, ◌^◌, ◌∙◌, ℕ, List, ◌++◌, Option, None, Some, MatchOption, inl, inr, refl, sym, ap, subst, slice_get, if◌then◌else◌, arith}
use Rattle.std.specs.Prelude.{option_map}
use Rattle.dsr_repair_theory.specs.Choices.{IsEntryAt, IsNumberFor, IsPlace, size_or, written_size}
use Rattle.dsr_ir.specs.Rules.{target_of}
use Rattle.dsr_ir.specs.declared.constraints.Atom.TheVariants as atoms
use Rattle.dsr_ir.specs.declared.constraints.Bound.{Bound}
use Rattle.dsr_ir.specs.declared.constraints.Bound.TheVariants as bounds
use Rattle.dsr_ir.specs.declared.constraints.Constraint.{Constraint}
use Rattle.dsr_ir.specs.declared.constraints.Literal.{Literal}
use Rattle.dsr_ir.specs.declared.declarations.Field.{Field}
use Rattle.dsr_ir.specs.declared.declarations.Rel.{Rel}
use Rattle.dsr_ir.specs.declared.declarations.Spec.{Spec}
use Rattle.dsr_ir.specs.declared.layouts.Layout.{Layout}
use Rattle.dsr_ir.specs.declared.rules.Rule.{Rule}
use Rattle.dsr_ir.specs.declared.tuples.Instance.{Instance}
use Rattle.dsr_ir.specs.declared.updates.Pick.TheVariants as picks
use Rattle.dsr_ir.specs.declared.updates.Update.{Update}
use Rattle.dsr_ir.specs.declared.updates.Write.{Write}
use Rattle.dsr_model_laws.proofs.Bounded.{bounded}
use Rattle.dsr_layout.proofs.Counted.{count_fits}
use Rattle.dsr_layout.proofs.RangeOfFacts.{fact_in_range}
use Rattle.dsr_layout.specs.InRange.{IsRecordOf}
use Rattle.dsr_meaning.specs.Cells.{width_bits}
use Rattle.dsr_meaning.specs.Consistency.{IsBinding}
use Rattle.dsr_meaning.specs.Counting.{IsIn}
use Rattle.dsr_meaning.specs.Instances.{IsInstance, declared_field, index_count, pool_of_premise, premise_pool, record_count}
use Rattle.dsr_meaning.specs.Models.{IsFact}
use Rattle.dsr_meaning.specs.Refusals.{IsLayoutOf, given_path, greatest_size}
use Rattle.dsr_meaning.specs.Truth.{HasSize, element_of, head}
use Rattle.dsr_meaning.specs.Typed.{CountsSlots, GivesTarget, IsTyped, IsTypedAtom, IsTypedBound, IsTypedInc, pool_of_var}
use Rattle.dsr_resolve.proofs.PlacesOfFields.{place_of}
use Rattle.dsr_step_theory.specs.declared.steps.Step.{Step}
use Rattle.dsr_update_theory.specs.Givers.{is_own}
use Rattle.dsr_update_theory.specs.Templates.{pick_of}
use Rattle.dsr_repair_laws.proofs.MakingCan.{IsMade, value_made}
use Rattle.dsr_repair_laws.proofs.MakingEntries.{FitsField, same_width}
use Rattle.dsr_repair_laws.proofs.TriedUpdates.{IsSetAt, IsSetting}
use Rattle.dsr_repair_laws.proofs.TypedLiterals.{IsLiteralOf}
use Rattle.dsr_ir.specs.declared.updates.Goal.{Goal}
use Rattle.dsr_repair_laws.proofs.MakingRecords.{head_record, of_rule, own_source, place_named, related_source, var_record}
use Rattle.dsr_repair_laws.proofs.MakingSpans.{counts_index}
use Rattle.dsr_repair_laws.proofs.MakingWrites.{of_value}
use Rattle.dsr_meaning.proofs.Items.{item_at}
use Rattle.dsr_meaning.proofs.Options.{some_and}

module _ (spec : Spec) (bytes : List ℕ) (layout : Layout) (is : IsLayoutOf spec bytes layout) (typed : IsTyped spec) (step : Step) (c : Constraint) (its : Literal) (literal : IsLiteralOf spec c its) (atom_typed : IsTypedAtom spec c.quant its.atom) (bound : IsBinding (IsFact spec layout bytes) c.quant step.binding) (goal : Goal) (u : Update) (setting : IsSetting spec goal its.atom u) where
  abbrev rule : Rule
  rule = setting.rule

  abbrev written : Instance
  written = record { rule = u.rule; elem = step.elem; index = step.index }

  value_typed : IsTypedAtom spec c.quant (atoms.Value setting.v setting.rel setting.op setting.bound)
  value_typed = subst (IsTypedAtom spec c.quant) setting.atom_is atom_typed

  -- the variable's pool is the source of the relation
  var_source : (source : ℕ) → option_map (λ (r : Rel). r.source) (slice_get spec.base.rels setting.rel) ≡ Some source → pool_of_var spec.base c.quant setting.v ≡ Some source
  var_source source e =
      let rel = some_and (slice_get spec.base.rels setting.rel) (λ r. (r.target ≡ None) × (pool_of_var spec.base c.quant setting.v ≡ Some r.source)) value_typed.0 in
      rel.1.1.1 ∙ (sym (ap (option_map (λ (r : Rel). r.source)) rel.1.0) ∙ e)

  rule_typed : IsTypedInc spec.base rule rule.inc
  rule_typed = (of_rule spec typed u.rule rule setting.giver.rule_is).inc

  module _ (stopped : Option Instance) (place : IsPlace step.binding stopped u.place step.elem) (entry : IsEntryAt step.binding stopped u.at step.index) where
    set_instance : IsSetAt setting.v setting.rel setting.path rule u → IsInstance spec layout written rule
    set_instance (IsSetAt.own inc single place_is at_is) =
        let source = own_source spec typed rule setting.rel rule.inc rule_typed setting.giver.gives (ap is_own inc) in
        let named = place_named setting.v step.binding stopped step.elem (subst (λ p. IsPlace step.binding stopped p step.elem) place_is place) in
        let at = var_record spec bytes layout is.numbers typed c.quant step.binding bound setting.v (premise_pool spec rule) step.elem (var_source (premise_pool spec rule) source) named in
        let first : step.index ≡ 0 = subst (λ a. IsEntryAt step.binding stopped a step.index) at_is entry in
        let below : step.index < 1 = omega (arith, first) in
        record { rule_is = setting.giver.rule_is; pool_is = at.pool_is; slot_below = at.slot_below; index_below = subst (λ s. step.index < index_count layout s) (sym single) below }
    set_instance (IsSetAt.slot pool inc premise place_is at_is) =
        let parts : CountsSlots spec.base rule.span pool × GivesTarget spec.base rule setting.rel pool setting.path × (setting.path.indexed ≡ true) = subst (IsTypedInc spec.base rule) inc rule_typed in
        let source = related_source spec typed setting.rel pool parts.1.target parts.1.relates in
        let is_head : step.elem ≡ head = subst (λ p. IsPlace step.binding stopped p step.elem) place_is place in
        let named = some_and (element_of step.binding setting.v) (λ e. step.index ≡ e.slot) (subst (λ a. IsEntryAt step.binding stopped a step.index) at_is entry) in
        let slot = var_record spec bytes layout is.numbers typed c.quant step.binding bound setting.v pool named.0 (var_source pool source) named.1.0 in
        let below : step.index < record_count layout pool = subst (λ k. k < record_count layout pool) (sym named.1.1) slot.slot_below in
        let at : IsRecordOf layout (premise_pool spec rule) step.elem =
        subst (λ p. IsRecordOf layout p step.elem) (sym (ap (pool_of_premise spec.base) premise)) (subst (IsRecordOf layout 0) (sym is_head) (head_record layout)) in
        record {
          rule_is = setting.giver.rule_is;
          pool_is = at.pool_is;
          slot_below = at.slot_below;
          index_below = counts_index spec.base bytes layout is.numbers rule.premise rule.span pool step.index (of_rule spec typed u.rule rule setting.giver.rule_is).span parts.0 below;
        }

    module _ (more : List Write) (number : IsNumberFor (IsFact spec layout bytes) step.binding (u.writes ++ more) step.number) where
      -- the value fits the field
      value_fits : (b : Bound) → setting.bound ≡ b → (f : Field) → declared_field spec.base setting.path.field ≡ Some f → FitsField spec layout step setting.path.field f (pick_of b)
      value_fits (bounds.Num k) e f declared =
          let fits = subst (IsTypedBound spec c.quant setting.rel) e value_typed.1 in
          record {
            number = k;
            number_is = refl;
            fits = fits rule setting.path f (item_at spec.rules u.rule rule setting.giver.rule_is) setting.giver.gives setting.target_is declared;
          }
      value_fits (bounds.Size measure) e f declared =
          let size_typed = subst (IsTypedBound spec c.quant setting.rel) e value_typed.1 in
          let by = of_value spec.base (pick_of setting.bound) setting.path setting.write setting.write_is in
          let picked : setting.write.pick ≡ picks.SizeOf measure = by.pick_is ∙ ap pick_of e in
          let written_is : written_size (u.writes ++ more) ≡ Some measure =
          ap (λ ws. written_size (ws ++ more)) setting.writes_are ∙ ap (λ p. size_or p (written_size more)) picked in
          let size : HasSize (IsFact spec layout bytes) step.binding measure step.number =
          subst (λ o. MatchOption o (step.number ≡ 0) (λ m. HasSize (IsFact spec layout bytes) step.binding m step.number)) written_is number in
          let most : step.number ≤ greatest_size spec layout measure = bounded spec bytes layout (fact_in_range spec bytes layout is.numbers typed) step.binding measure step.number size_typed.1 size in
          let at = place_of spec.base bytes layout is.numbers setting.path.field f declared in
          let atom : its.atom ≡ atoms.Value setting.v setting.rel setting.op (bounds.Size measure) = setting.atom_is ∙ ap (atoms.Value setting.v setting.rel setting.op) e in
          let given : given_path setting.rel rule.inc ≡ Some setting.path = ap (λ t. if t then target_of rule.inc else None) setting.giver.gives ∙ setting.target_is in
          let fits : greatest_size spec layout measure < 2 ^ width_bits at.place.width =
          count_fits spec bytes is.accepted layout is.numbers c literal.conj its setting.v setting.rel setting.op measure literal.in_spec literal.in_constraint literal.in_conj atom setting.reaches rule setting.path at.place
          (item_at spec.rules u.rule rule setting.giver.rule_is) given at.place_is in
          let wide : greatest_size spec layout measure < 2 ^ width_bits f.width = subst (λ w. greatest_size spec layout measure < 2 ^ width_bits w) (same_width spec.base bytes layout is.numbers setting.path.field f at.place declared at.place_is) fits in
          record { number = step.number; number_is = refl; fits = omega (arith, most, wide) }

      pub setting_made : (write : Write) → IsIn write u.writes → IsMade spec layout step write
      setting_made write is_in =
          let made = value_made spec bytes layout is typed step written rule (set_instance setting.placed) (of_rule spec typed u.rule rule setting.giver.rule_is) refl (λ path its. refl)
          (pick_of setting.bound) setting.path setting.write setting.target_is setting.write_is (value_fits setting.bound refl) in
          elim (subst (IsIn write) setting.writes_are is_in) as (λ _. IsMade spec layout step write) [
            | inl one ↦ subst (IsMade spec layout step) (sym one) made
            | inr none ↦ absurd none
          ]
