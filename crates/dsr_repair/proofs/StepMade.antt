-- A step that is due, made: which update the plan has for it, and what it leaves.
use Rattle.std.proofs.Common.{Result, Ok, Err, ◌≡◌, ◌∙◌, ℕ, List, length, Option, None, Some, slice_get, sym, ap, subst}
use Rattle.std.proofs.lemmas.Option.{same_Some}
use Rattle.std.specs.Option.{option_and_then}
use Rattle.std.specs.Prelude.{OnErr}
use Rattle.dsr_repair_theory.specs.Choices.{IsUpdateAt}
use Rattle.dsr_repair_theory.specs.Choices.IsUpdateAt.{adds, takes_away}
use Rattle.dsr_repair_laws.proofs.MakingSteps.{can_step}
use Rattle.dsr_fixpoint.specs.Models.{IsLaidOut}
use Rattle.dsr_ir.specs.declared.constraints.Atom.{Atom}
use Rattle.dsr_ir.specs.declared.declarations.Spec.{Spec}
use Rattle.dsr_ir.specs.declared.declarations.Structures.{Structures}
use Rattle.dsr_ir.specs.declared.layouts.Layout.{Layout}
use Rattle.dsr_ir.specs.declared.tuples.Binding.{Binding}
use Rattle.dsr_ir.specs.declared.tuples.Instance.{Instance}
use Rattle.dsr_ir.specs.declared.updates.Template.{Template}
use Rattle.dsr_ir.specs.declared.updates.Update.{Update}
use Rattle.dsr_plan_theory.specs.Plans.{IsPlan, way_at}
use Rattle.dsr_plan_theory.specs.declared.choices.Choice.{Choice}
use Rattle.dsr_repair.specs.Planned.{chosen_update, update_in}
use Rattle.dsr_repair_theory.specs.Entries.{IsEntryOf}
use Rattle.dsr_step_theory.specs.Images.{FixedFieldsStay, IsImageOf}
use Rattle.dsr_run_laws.proofs.RunOnce.{fixed_same, step_keeps, step_keeps_fixed}
use Rattle.dsr_bound_laws.proofs.Whole.{remaining_falls, rises_above}
use Rattle.dsr_model.specs.Views.{ModelView}
use Rattle.dsr_repair.specs.Stepping.{IsNearer, state}
use Rattle.dsr_repair_theory.specs.Runs.{IsDueEntry}
use Rattle.dsr_repair_theory.specs.Turns.{IsDueStep}
use Rattle.dsr_repair_theory.specs.declared.entries.Entry.{Entry}
use Rattle.dsr_resolve.proofs.AcceptedLayouts.{legal_of}
use Rattle.dsr_step_theory.specs.Steps.{CanStep}
use Rattle.dsr_step_theory.specs.declared.steps.Step.{Step}

-- ---- the update

-- the update that is chosen stands at its place in the template
update_at :
    (spec : Spec) (layout : Layout) (bytes : List ℕ) (b : Binding) (atom : Atom) (template : Template)
    (n : ℕ) (update : Update) (stopped : Option Instance)
    → IsUpdateAt spec layout bytes b atom template n update stopped → slice_get template.updates n ≡ Some update
update_at spec layout bytes b atom template _ update _ (adds _ goal is) = is
update_at spec layout bytes b atom template _ update _ (takes_away n _ fact i goal to_go deriver is rule) = is

-- the plan has the update of the step that is due
pub due_update :
    (spec : Spec) (choice : Choice) (layout : Layout) (bytes : List ℕ) (step : Step) (update : Update)
    → IsDueStep spec choice layout bytes step update → chosen_update choice step ≡ Some update
due_update spec choice layout bytes step update due =
    let row = due.due.row in
    let has = due.due.literal_is.repaired.template_is in
    let in_template = update_at spec layout bytes step.binding due.literal.atom due.template step.update update due.chosen.stopped due.chosen.update_is in
    ap (option_and_then (λ row. option_and_then (update_in step.update) (way_at row step.conj step.literal))) due.due.binding_is.row_of.row_is
    ∙ (ap (option_and_then (update_in step.update)) has.way_is ∙ in_template)

-- so there is one
pub never_none :
    (spec : Spec) (choice : Choice) (layout : Layout) (bytes : List ℕ) (step : Step) (update : Update)
    → IsDueStep spec choice layout bytes step update → None ≡ chosen_update choice step → ⊥
never_none spec choice layout bytes step update due none =
    let e : None ≡ Some update = none ∙ due_update spec choice layout bytes step update due in cc

-- and the step is due by it
pub due_by_it :
    (spec : Spec) (choice : Choice) (layout : Layout) (bytes : List ℕ) (step : Step) (update its : Update)
    → IsDueStep spec choice layout bytes step update → Some its ≡ chosen_update choice step
    → IsDueStep spec choice layout bytes step its
due_by_it spec choice layout bytes step update its due is =
    subst (IsDueStep spec choice layout bytes step)
    (sym (same_Some its update (is ∙ due_update spec choice layout bytes step update due))) due

-- ---- what it leaves

module _ (spec : Spec) (choice : Choice) (layout : Layout) (old : List ℕ) (step : Step) (update : Update)
    (image : IsImageOf spec layout old) (plan : IsPlan spec choice)
    (due : IsDueStep spec choice layout old step update) where
  -- it can be made
  pub can_be_made : CanStep spec layout step update (length old)
  can_be_made = can_step spec choice layout old step update image plan due

  -- what it leaves has the layout
  pub image_stays : (new : List ℕ) (entry : Entry) → IsEntryOf spec layout step update old new entry → IsImageOf spec layout new
  image_stays new entry told =
      step_keeps spec choice layout plan old new entry image (record { step = step; update = update; due = due; made = told })

  -- and so do the fixed fields
  pub fixed_stay : (new : List ℕ) (entry : Entry) → IsEntryOf spec layout step update old new entry → FixedFieldsStay spec.base old new
  fixed_stay new entry told =
      step_keeps_fixed spec choice layout plan old new entry image (record { step = step; update = update; due = due; made = told })

-- where no byte changes, no fixed field does
pub fixed_as_before : (base : Structures) (old new : List ℕ) → new ≡ old → FixedFieldsStay base old new
fixed_as_before base old new same = subst (FixedFieldsStay base old) (sym same) (fixed_same base old)

-- what holds anyway holds after a failure
pub on_err : {A E P : Type 0} (result : Result A E) → P → OnErr result P
on_err (Ok value) holds = tt
on_err (Err fault) holds = holds

-- what has the same bytes, entries and model is the same
pub same_state : (bytes bytes' : List ℕ) (entries entries' : List Entry) (model : ModelView) → bytes ≡ bytes' → entries ≡ entries' → state bytes entries model ≡ state bytes' entries' model
same_state bytes bytes' entries entries' model one other = λ i. state (one i) (other i) model

-- ---- a layout on an image

pub laid_out : (spec : Spec) (layout : Layout) (bytes : List ℕ) → IsImageOf spec layout bytes → IsLaidOut spec layout bytes
laid_out spec layout bytes image = record {
  typed = image.typed;
  layout_is = image.layout_is;
  legal = legal_of spec bytes layout image.layout_is image.typed image.small;
  small = image.small;
}

-- a step that is due brings the image nearer to its end
pub nearer :
    (spec : Spec) (choice : Choice) (layout : Layout) (old new : List ℕ) (step : Step) (update : Update) (entry : Entry)
    → IsPlan spec choice → IsImageOf spec layout old → IsImageOf spec layout new
    → IsDueStep spec choice layout old step update → IsEntryOf spec layout step update old new entry
    → IsNearer spec choice layout old new step.constraint
nearer spec choice layout old new step update entry plan image after due told =
    let is : IsDueEntry spec choice layout old entry new = record { step = step; update = update; due = due; made = told } in
    record {
      falls = λ n m. remaining_falls spec choice layout old new entry plan image is n m after;
      above = rises_above spec choice layout old new entry plan image is;
    }
