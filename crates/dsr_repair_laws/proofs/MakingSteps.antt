-- A step that is due can be made, writes no fixed field, and in the head none but fields of its structure.
use Rattle.std.proofs.Common.{◌≡◌, ◌∙◌, ℕ, List, All, length, Option, None, Some, IfSome, refl, sym, ap, subst}
use Rattle.std.proofs.lemmas.Option.{same_Some}
use Rattle.dsr_repair_theory.specs.Choices.{IsFresh, IsFreshFrom}
use Rattle.dsr_ir.specs.declared.constraints.Constraint.{Constraint}
use Rattle.dsr_ir.specs.declared.constraints.Literal.{Literal}
use Rattle.dsr_ir.specs.declared.declarations.Spec.{Spec}
use Rattle.dsr_ir.specs.declared.layouts.Layout.{Layout}
use Rattle.dsr_ir.specs.declared.updates.Template.{Template}
use Rattle.dsr_ir.specs.declared.updates.Update.{Update}
use Rattle.dsr_ir.specs.declared.updates.Write.{Write}
use Rattle.dsr_meaning.specs.Consistency.{IsBinding}
use Rattle.dsr_meaning.specs.Counting.{IsIn}
use Rattle.dsr_meaning.specs.Models.{IsFact}
use Rattle.dsr_meaning.specs.Refusals.{IsLayoutOf}
use Rattle.dsr_plan_theory.specs.Plans.{IsPlan, owner_at}
use Rattle.dsr_plan_theory.specs.declared.choices.Choice.{Choice}
use Rattle.dsr_step_theory.specs.Images.{IsFree, IsImageOf, IsOfHead}
use Rattle.dsr_repair_theory.specs.Reading.{IsPathIn}
use Rattle.dsr_repair_theory.specs.Turns.{IsDueStep}
use Rattle.dsr_step_theory.specs.Steps.{CanStep, CanWrite, IsSlot}
use Rattle.dsr_step_theory.specs.declared.steps.Step.{Step}
use Rattle.dsr_repair_laws.proofs.Forms.{row_form}
use Rattle.dsr_repair_laws.proofs.GrownUpdates.{of_form}
use Rattle.dsr_repair_laws.proofs.MakingCan.{IsMade}
use Rattle.dsr_repair_laws.proofs.RawUpdates.{raw_updates}
use Rattle.dsr_repair_laws.proofs.TriedSteps.{IsTriedStep, at_place, each_made}
use Rattle.dsr_repair_laws.proofs.TypedLiterals.{IsTypedIn, typed_in}
use Rattle.dsr_meaning.proofs.Items.{all_of}
use Rattle.dsr_meaning.proofs.Options.{some_and}

module _ (spec : Spec) (choice : Choice) (layout : Layout) (bytes : List ℕ) (step : Step) (update : Update) (image : IsImageOf spec layout bytes) (plan : IsPlan spec choice) (due : IsDueStep spec choice layout bytes step update) where
  abbrev is : IsLayoutOf spec bytes layout
  is = image.layout_is

  abbrev c : Constraint
  c = due.due.constraint

  abbrev its : Literal
  its = due.literal

  there : IsTypedIn spec c its
  there = typed_in spec image.typed step.constraint c step.conj step.literal its due.due.binding_is.row_of.constraint_is due.due.literal_is.repaired.literal_is

  pub bound : IsBinding (IsFact spec layout bytes) c.quant step.binding
  bound =
      let violated = due.due.binding_is.violated in
      let same : violated.constraint ≡ c = same_Some violated.constraint c (sym violated.declared ∙ due.due.binding_is.row_of.constraint_is) in
      subst (λ (x : Constraint). IsBinding (IsFact spec layout bytes) x.quant step.binding) same violated.is_binding

  pub tried : IsTriedStep spec layout bytes step update
  tried =
      let owner = owner_at spec step.constraint c in
      let form = row_form spec choice step.constraint c due.due.row step.conj step.literal its due.template plan due.due.binding_is.row_of due.due.literal_is.repaired.literal_is due.due.literal_is.repaired.template_is in
      let found = of_form owner its due.template form step.update update (at_place spec layout bytes step.binding its.atom due.template step.update update due.chosen.stopped due.chosen.update_is) in
      record {
        image = image;
        constraint = c;
        literal = its;
        there = there;
        bound = bound;
        known = form.known;
        tells = form.tells;
        raw = form.raw;
        own = found.0;
        own_at = found.1;
        grown = found.2;
        kind = raw_updates spec form.known c.quant its form.tried there.literal_typed.negated form.are_tried form.raw form.is_tried step.update found.0 found.1;
        template = due.template;
        goal_same = ap (λ (t : Template). t.goal) form.is;
        chosen = due.chosen;
      }

  made : (write : Write) → IsIn write update.writes → IsMade spec layout step write
  made = each_made spec layout bytes step update tried

  slot_of : (takes : Option ℕ) → IsFresh (IsFact spec layout bytes) spec layout takes step.fresh → IfSome step.fresh (IsSlot layout)
  slot_of None none = subst (λ o. IfSome o (IsSlot layout)) (sym none) tt
  slot_of (Some pool) some =
      let e = some_and step.fresh (IsFreshFrom (IsFact spec layout bytes) spec layout pool) some in
      subst (λ o. IfSome o (IsSlot layout)) (sym e.1.0) e.1.1.supplied.slot

  pub can_step : CanStep spec layout step update (length bytes)
  can_step = record {
    typed = image.typed;
    image = bytes;
    layout_is = is;
    as_long = refl;
    small = image.small;
    writes = all_of (CanWrite spec layout step) update.writes (λ write is_in. (made write is_in).0);
    fresh = slot_of update.fresh due.chosen.fresh;
  }

  pub writes_free : All (IsFree spec) update.writes
  writes_free = all_of (IsFree spec) update.writes (λ write is_in. (made write is_in).1)

  pub writes_of_head : All (IsOfHead spec step.elem) update.writes
  writes_of_head = all_of (IsOfHead spec step.elem) update.writes (λ write is_in. (made write is_in).2)

  pub writes_read : All (IsPathIn spec step.elem.pool) update.writes
  writes_read = all_of (IsPathIn spec step.elem.pool) update.writes (λ write is_in. (made write is_in).3)
