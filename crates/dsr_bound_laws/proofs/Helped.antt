-- A step that is due by a plan keeps what is promised of it.
use Rattle.std.proofs.Common.{◌≡◌, ◌≤◌, ◌<◌, ℕ, zero, suc, List, [], ◌∷◌, length, None, Some, slice_get, refl, sym, subst, ◌∙◌, arith}
use Rattle.std.proofs.lemmas.Option.{same_Some, slice_get_within}
use Rattle.dsr_repair_theory.specs.Applications.{FactsHold}
use Rattle.dsr_graph_theory.specs.Breaks.{IsFirstReason}
use Rattle.dsr_graph_theory.specs.Breaks.IsFirstReason.{first, later, none}
use Rattle.dsr_graph_theory.specs.declared.causes.Cause.{Cause}
use Rattle.dsr_graph_theory.specs.declared.causes.Reason.{Reason}
use Rattle.dsr_ir.specs.declared.constraints.Literal.{Literal}
use Rattle.dsr_ir.specs.declared.declarations.Spec.{Spec}
use Rattle.dsr_ir.specs.declared.layouts.Layout.{Layout}
use Rattle.dsr_ir.specs.declared.updates.Template.{Template}
use Rattle.dsr_meaning.specs.Consistency.{BoundConstraint, IsViolated}
use Rattle.dsr_meaning.specs.Models.{IsFact}
use Rattle.dsr_plan_theory.specs.Plans.{IsPlan, IsWayFor, MayRepair, owner_at}
use Rattle.dsr_plan_theory.specs.declared.choices.Choice.{Choice}
use Rattle.dsr_plan_theory.specs.declared.choices.Row.{Row}
use Rattle.dsr_plan_theory.specs.declared.choices.Way.TheVariants.{By}
use Rattle.dsr_repair_theory.specs.Due.{IsDue}
use Rattle.dsr_repair_laws.proofs.Told.{was_stepped}
use Rattle.dsr_step_theory.specs.Images.{IsImageOf}
use Rattle.dsr_repair_theory.specs.Runs.{IsDueEntry}
use Rattle.dsr_repair_theory.specs.Turns.{bound_by}
use Rattle.dsr_repair_theory.specs.declared.entries.Entry.{Entry}
use Rattle.dsr_step_theory.specs.declared.steps.Step.{Step}
use Rattle.dsr_update_theory.specs.Templates.{literal_at}
use Rattle.dsr_bound_laws.proofs.Promised.{IsListedApplied, literals_stay, others_stand_by, templates_help}
use Rattle.dsr_bound_laws.proofs.Falls.{IsHelped}

-- where no reason is the first one, there is none
no_reason : (Such : Cause → Type 0) (causes : List Cause) → ((reason : Reason) → IsFirstReason Such causes (Some reason) → ⊥) → IsFirstReason Such causes None
no_reason Such [] no_one = none
no_reason Such (cause ∷ causes) no_one =
    let not_this : Such cause → ⊥ = λ such. no_one cause.reason (first cause such) in
    later cause not_this (no_reason Such causes (λ reason is. no_one reason (later cause not_this is)))

-- each constraint has a row
pub row_there : (rows : List Row) (n : ℕ) → n < length rows → (row : Row) × (slice_get rows n ≡ Some row)
row_there [] n less = absurd (omega (arith, less))
row_there (row ∷ rows) zero less = (row, refl)
row_there (row ∷ rows) (suc n) less = row_there rows n (omega (arith, less))

module _ (spec : Spec) (choice : Choice) (layout : Layout) (old new : List ℕ) (entry : Entry)
    (plan : IsPlan spec choice) (image : IsImageOf spec layout old)
    (step_is : IsDueEntry spec choice layout old entry new) where
  abbrev pub step : Step
  step = step_is.step

  abbrev pub its : Literal
  its = step_is.due.literal

  abbrev pub template : Template
  template = step_is.due.template

  due : IsDue (IsFact spec layout old) spec choice (bound_by step_is.step) step_is.step.conj step_is.step.literal step_is.due.literal step_is.due.template
  due = step_is.due.due

  may : MayRepair (owner_at spec step_is.step.constraint step_is.due.due.constraint) step_is.step.conj step_is.step.literal step_is.due.literal step_is.due.due.literal_is.repaired.template_is.number step_is.due.template
  may =
      let row_of = step_is.due.due.binding_is.row_of in
      let repaired = step_is.due.due.literal_is.repaired in
      let way = (plan.ways step_is.step.constraint step_is.due.due.constraint step_is.due.due.row row_of).ways step_is.step.conj step_is.step.literal step_is.due.literal repaired.literal_is in
      subst (IsWayFor (owner_at spec step_is.step.constraint step_is.due.due.constraint) step_is.step.conj step_is.step.literal step_is.due.literal)
      (same_Some way.0 (By repaired.template_is.number step_is.due.template) (sym way.1 ∙ repaired.template_is.way_is)) way.2

  -- the facts that the constraint uses hold, since those who give them stand lower
  facts_hold : FactsHold spec layout old step_is.step.constraint
  facts_hold giver b among violated =
      let many = plan.as_many in
      let within = slice_get_within spec.constraints giver violated.constraint violated.declared in
      let row = row_there choice.rows giver (omega (arith, many, within)) in
      let lower = plan.relies step_is.step.constraint giver step_is.due.due.constraint violated.constraint step_is.due.due.row row.0 step_is.due.due.binding_is.row_of (record { constraint_is = violated.declared; row_is = row.1 }) among in
      let lowest = step_is.due.due.binding_is.lowest (record { constraint = giver; binding = b }) row.0 violated row.1 in
      absurd (omega (arith, lower, lowest))

  pub applied : IsListedApplied spec step_is.due.due.constraint step_is.due.literal step_is.due.due.literal_is.repaired.template_is.number step_is.due.template step_is.update layout step_is.step old new
  applied =
      let is = step_is.due.due in
      let repaired = is.literal_is.repaired in
      let violated = is.binding_is.violated in
      record {
        constraint_is = is.binding_is.row_of.constraint_is;
        literal_is = repaired.literal_is;
        listed = may.listed;
        applied = record {
          image = image;
          violated = violated;
          facts_hold = facts_hold;
          literal = step_is.due.literal;
          literal_is = subst (λ c. literal_at c step_is.step.conj step_is.step.literal ≡ Some step_is.due.literal)
              (same_Some is.constraint violated.constraint (sym is.binding_is.row_of.constraint_is ∙ violated.declared)) repaired.literal_is;
          is_false = repaired.is_false;
          chosen = step_is.due.chosen;
          stepped = was_stepped spec layout step_is.step step_is.update old new entry step_is.made;
        };
      }

  -- what stands as low as the constraint isn't broken
  pub spared :
      (w : BoundConstraint) (other : Row) → slice_get choice.rows w.constraint ≡ Some other → other.level ≤ step_is.due.due.row.level
      → IsViolated (IsFact spec layout new) spec w → IsViolated (IsFact spec layout old) spec w
  spared w other other_is low violated =
      let is = step_is.due.due in
      others_stand_by spec is.constraint step_is.due.literal is.literal_is.repaired.template_is.number step_is.due.template step_is.update layout step_is.step old new
      w.constraint violated.constraint w.binding applied violated.declared
      (no_reason _ _ (λ reason breaks.
      let higher = plan.breaks step_is.step.constraint w.constraint is.constraint violated.constraint is.row other step_is.step.conj step_is.step.literal step_is.due.template reason
      is.binding_is.row_of (record { constraint_is = violated.declared; row_is = other_is }) is.literal_is.repaired.template_is breaks in
      absurd (omega (arith, higher, low)))) violated

  pub helped : IsHelped spec choice layout old new (bound_by step_is.step) step_is.due.due.constraint step_is.due.due.row step_is.step.conj step_is.step.literal step_is.due.literal step_is.due.template
  helped =
      let is = step_is.due.due in
      record {
        spares = spared;
        stay = λ n o other at.
            literals_stay spec is.constraint step_is.due.literal is.literal_is.repaired.template_is.number step_is.due.template step_is.update layout step_is.step old new n o
            applied may.falsifies_none other at;
        helps =
            templates_help spec is.constraint step_is.due.literal is.literal_is.repaired.template_is.number step_is.due.template step_is.update layout step_is.step old new applied;
      }
