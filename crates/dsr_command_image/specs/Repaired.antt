-- What is answered about a repair of an image by a plan.
use Rattle.std.specs.Prelude.{◌≡◌, ◌≤◌, ◌++◌, ◌+◌, ℕ, List, Some, length, codes, decimal}
use Rattle.dsr_answers.specs.Texts.{binding_text, constraint_name, layout_answer, pool_name}
use Rattle.dsr_ir.specs.declared.declarations.Spec.{Spec}
use Rattle.dsr_ir.specs.declared.layouts.Layout.{Layout}
use Rattle.dsr_meaning.specs.Refusals.{Refusal, first_of, refusals}
use Rattle.dsr_plan_theory.specs.declared.choices.Choice.{Choice}
use Rattle.dsr_command_image.specs.declared.repairs.Repaired.{Repaired}
use Rattle.dsr_command_image.specs.declared.repairs.Repaired.TheVariants as repaired
use Rattle.dsr_repair_theory.specs.Runs.{IsRun}
use Rattle.dsr_repair_theory.specs.declared.entries.Entry.{Entry}
use Rattle.dsr_repair_theory.specs.declared.turns.Need.{Need}
use Rattle.dsr_repair_theory.specs.declared.turns.Outcome.TheVariants.{Consistent, Empty}
use Rattle.dsr_report.specs.Reports.{end_line, entries_text}
use Rattle.dsr_script.specs.Moves.{shown}
use Rattle.dsr_script.specs.Scripts.{Answer}
use Rattle.dsr_script.specs.declared.status.Verdict.TheVariants as verdicts
use Rattle.dsr_step_theory.specs.Images.{IsImageOf}

-- the lines of all steps, and how many there are
abbrev pub ended_answer : List ℕ → ℕ → Answer
ended_answer lines count = record { verdict = verdicts.Ok; text = lines ++ end_line count }

-- the report of all steps
abbrev pub repaired_answer : Spec → List Entry → Answer
repaired_answer spec entries = ended_answer (entries_text spec entries) (length entries)

-- which pool's supply is empty, and for which literal at which binding of which constraint
abbrev pub empty_line : Spec → Need → List ℕ
empty_line spec need =
    codes "empty " ++ pool_name spec need.pool ++ codes " " ++ constraint_name spec need.constraint
    ++ codes " " ++ binding_text spec need.binding ++ codes " " ++ decimal (need.conj + 1)
    ++ codes "." ++ decimal (need.literal + 1) ++ codes "\n"

-- the lines of the steps so far, how many there are, and what is needed
abbrev pub stopped_answer : Spec → List ℕ → ℕ → Need → Answer
stopped_answer spec lines count need = record {
  verdict = verdicts.SupplyEmpty;
  text = (lines ++ end_line count) ++ empty_line spec need;
}

-- the report of the steps so far, and what is needed
abbrev pub empty_answer : Spec → List Entry → Need → Answer
empty_answer spec entries need =
    stopped_answer spec (entries_text spec entries) (length entries) need

-- what comes of a repair: these bytes are to be saved and the answer told then, or it is told and
-- nothing saved
pub data Ending : Type 0 where
  Saves : (bytes : List ℕ) (answer : Answer) → Ending
  Tells : (answer : Answer) → Ending

-- The image has no layout, and the first reason is told. Or the steps that are due by the plan lead
-- to a consistent image, which is to be saved, with their report. Or they lead to where a supply is
-- empty, and that is told.
pub data IsRepairOf (spec : Spec) (choice : Choice) (image : List ℕ) : Ending → Type 0 where
  unlaid :
      (refusal : Refusal) → first_of (refusals spec image) ≡ Some refusal
      → IsRepairOf spec choice image (Tells (layout_answer spec refusal))
  mended :
      (layout : Layout) (entries : List Entry) (new : List ℕ) → IsImageOf spec layout image
      → IsRun spec choice layout image entries new Consistent
      → IsRepairOf spec choice image (Saves new (repaired_answer spec entries))
  stopped :
      (layout : Layout) (entries : List Entry) (new : List ℕ) (need : Need)
      → IsImageOf spec layout image
      → IsRun spec choice layout image entries new (Empty need)
      → IsRepairOf spec choice image (Tells (empty_answer spec entries need))

-- what the program's value says
abbrev pub ending_of : Repaired → Ending
ending_of (repaired.Saved bytes told) = Saves bytes.items (shown told)
ending_of (repaired.Unsaved told) = Tells (shown told)
