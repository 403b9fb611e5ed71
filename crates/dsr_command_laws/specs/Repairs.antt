-- What a repair leaves and tells, by what it comes to.
use Rattle.std.specs.Prelude.{◌≡◌, ◌≤◌, ◌↔◌, ◌⊎◌, ℕ, List, [], Some, length}
use Rattle.dsr_answers.specs.Texts.{layout_answer}
use Rattle.dsr_command_theory.specs.Plans.{HasPlan}
use Rattle.dsr_ir.specs.declared.declarations.Spec.{Spec}
use Rattle.dsr_ir.specs.declared.layouts.Layout.{Layout}
use Rattle.dsr_meaning.specs.Consistency.{IsConsistent}
use Rattle.dsr_meaning.specs.Refusals.{IsLayoutOf, Refusal, first_of, refusals}
use Rattle.dsr_command_plan.specs.StuckTexts.{refused_answer}
use Rattle.dsr_plan_theory.specs.StuckSets.{HasNoPlan, IsStuckSet}
use Rattle.dsr_plan_theory.specs.Taken.{IsTaken}
use Rattle.dsr_plan_theory.specs.declared.choices.Choice.{Choice}
use Rattle.dsr_plan_theory.specs.declared.refusals.StuckSet.{StuckSet}
use Rattle.dsr_bound_laws.specs.Bounds.{bound}
use Rattle.dsr_command_image.specs.Repaired.{empty_answer, repaired_answer}
use Rattle.dsr_repair_theory.specs.Runs.{IsRun}
use Rattle.dsr_repair_theory.specs.declared.entries.Entry.{Entry}
use Rattle.dsr_repair_theory.specs.declared.turns.Need.{Need}
use Rattle.dsr_repair_theory.specs.declared.turns.Outcome.TheVariants.{Consistent, Empty}
use Rattle.dsr_script.specs.Outside.{IsSaved, Outside, Stands}
use Rattle.dsr_script.specs.Scripts.{Answer}
use Rattle.dsr_script.specs.declared.status.Verdict.{Verdict}
use Rattle.dsr_script.specs.declared.status.Verdict.TheVariants as verdicts
use Rattle.dsr_step_theory.specs.Images.{FixedFieldsStay}
use Rattle.dsr_store.specs.Written.{appended}

abbrev pub IsTold : Outside → Outside → Answer → Type 0
IsTold before after answer = after.output.written ≡ appended before.output.written answer.text

-- nothing is saved, and what stands in the way of a plan is told
pub record WasUnplanned (spec : Spec) (before after : Outside) : Type 0 where
  pub set : StuckSet
  pub stuck : IsStuckSet spec set
  pub stands : Stands before after
  pub told : IsTold before after (refused_answer spec set)

-- nothing is saved, and the first reason for which the image has no layout is told
pub record WasUnlaid (spec : Spec) (image : List ℕ) (before after : Outside) : Type 0 where
  pub refusal : Refusal
  pub first : first_of (refusals spec image) ≡ Some refusal
  pub stands : Stands before after
  pub told : IsTold before after (layout_answer spec refusal)

-- By the plan that is taken, due steps lead from the image to a consistent one of the same layout
-- and with the same bits of fixed fields, no more steps than the specification and the image's
-- length bound. That alone is saved, under the name, and the report of the steps is told. An image
-- that was consistent before is left as it is.
pub record WasRepaired (spec : Spec) (image name : List ℕ) (before after : Outside) : Type 0 where
  pub choice : Choice
  pub taken : IsTaken spec choice
  pub layout : Layout
  pub laid_out : IsLayoutOf spec image layout
  pub entries : List Entry
  pub new : List ℕ
  pub run : IsRun spec choice layout image entries new Consistent
  pub short : length entries ≤ bound spec (length image)
  pub still : IsLayoutOf spec new layout
  pub fixed : FixedFieldsStay spec.base image new
  pub consistent : IsConsistent spec layout new
  pub saved : IsSaved before after name new
  pub told : IsTold before after (repaired_answer spec entries)
  pub left : IsConsistent spec layout image → (entries ≡ []) × (new ≡ image)

-- By the plan that is taken, due steps, as few, lead to where a supply has nothing of what is
-- needed next. Nothing is saved, and the report of the steps is told with what is needed.
pub record WasStopped (spec : Spec) (image : List ℕ) (before after : Outside) : Type 0 where
  pub choice : Choice
  pub taken : IsTaken spec choice
  pub layout : Layout
  pub laid_out : IsLayoutOf spec image layout
  pub entries : List Entry
  pub new : List ℕ
  pub need : Need
  pub run : IsRun spec choice layout image entries new (Empty need)
  pub short : length entries ≤ bound spec (length image)
  pub still : IsLayoutOf spec new layout
  pub stands : Stands before after
  pub told : IsTold before after (empty_answer spec entries need)

abbrev pub HasLayout : Spec → List ℕ → Type 0
HasLayout spec image = (layout : Layout) × IsLayoutOf spec image layout

-- by the plan that is taken, due steps lead from the image to where a supply has nothing of what is
-- needed next
pub record RunsDry (spec : Spec) (image : List ℕ) : Type 0 where
  pub choice : Choice
  pub taken : IsTaken spec choice
  pub layout : Layout
  pub laid_out : IsLayoutOf spec image layout
  pub entries : List Entry
  pub new : List ℕ
  pub need : Need
  pub run : IsRun spec choice layout image entries new (Empty need)

-- A verdict on a repair. It says exactly whether there is a plan, and where there is one, whether
-- the image has a layout; where both are there, the image was repaired, or a supply was empty,
-- exactly where the run ends so.
pub record IsRepairVerdict (spec : Spec) (image name : List ℕ) (before after : Outside)
    (verdict : Verdict) : Type 0 where
  pub no_plan : (verdict ≡ verdicts.PlanRefused) ↔ HasNoPlan spec
  pub no_layout : (verdict ≡ verdicts.LayoutRefused) ↔ (HasPlan spec × (HasLayout spec image → ⊥))
  pub otherwise :
      HasPlan spec → HasLayout spec image
      → (verdict ≡ verdicts.Ok) ⊎ (verdict ≡ verdicts.SupplyEmpty)
  pub empty : (verdict ≡ verdicts.SupplyEmpty) ↔ RunsDry spec image
  pub unplanned : verdict ≡ verdicts.PlanRefused → WasUnplanned spec before after
  pub unlaid : verdict ≡ verdicts.LayoutRefused → WasUnlaid spec image before after
  pub repaired : verdict ≡ verdicts.Ok → WasRepaired spec image name before after
  pub stopped : verdict ≡ verdicts.SupplyEmpty → WasStopped spec image before after
