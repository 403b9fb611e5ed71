-- What is answered to a trial.
use Rattle.std.specs.Prelude.{◌≡◌, ◌++◌, ℕ, List, Some, codes, decimal, length}
use Rattle.dsr_answers.specs.Refused.{IsRefused}
use Rattle.dsr_answers.specs.Texts.{layout_answer}
use Rattle.dsr_gen.specs.Images.{trial_bytes}
use Rattle.dsr_gen.specs.Texts.{trial_text}
use Rattle.dsr_ir.specs.declared.declarations.Spec.{Spec}
use Rattle.dsr_ir.specs.declared.layouts.Layout.{Layout}
use Rattle.dsr_meaning.specs.Consistency.{AreViolations, BoundConstraint}
use Rattle.dsr_meaning.specs.Models.{IsFact}
use Rattle.dsr_meaning.specs.Refusals.{IsLayoutOf, Refusal, first_of, refusals}
use Rattle.dsr_command_plan.specs.StuckTexts.{refused_answer}
use Rattle.dsr_plan_theory.specs.StuckSets.{HasNoPlan, IsStuckSet}
use Rattle.dsr_plan_theory.specs.Taken.{IsTaken}
use Rattle.dsr_plan_theory.specs.declared.choices.Choice.{Choice}
use Rattle.dsr_plan_theory.specs.declared.refusals.StuckSet.{StuckSet}
use Rattle.dsr_command_image.specs.Repaired.{empty_answer}
use Rattle.dsr_repair_theory.specs.Runs.{IsRun}
use Rattle.dsr_repair_theory.specs.declared.entries.Entry.{Entry}
use Rattle.dsr_repair_theory.specs.declared.turns.Need.{Need}
use Rattle.dsr_repair_theory.specs.declared.turns.Outcome.TheVariants.{Consistent, Empty}
use Rattle.dsr_script.specs.Scripts.{Answer}
use Rattle.dsr_script.specs.declared.status.Verdict.TheVariants as verdicts
use Rattle.dsr_language_theory.specs.Specifications.{IsSpecificationOf}

-- the number, how many bytes the image has, how many bindings are violated at first, and how many
-- steps repair it
abbrev pub trial_line : ℕ → ℕ → ℕ → ℕ → List ℕ
trial_line number bytes violated updates =
    codes "trial " ++ decimal number ++ codes " length " ++ decimal bytes ++ codes " violated "
    ++ decimal violated ++ codes " updates " ++ decimal updates ++ codes "\n"

abbrev pub trial_answer : ℕ → ℕ → ℕ → ℕ → Answer
trial_answer number bytes violated updates =
    record { verdict = verdicts.Ok; text = trial_line number bytes violated updates }

-- The image of the number is checked and repaired by the plan that is taken for the text of trials,
-- and that is told. Whatever would stand in the way is told as the other commands tell it. The
-- specification goes the way of any text, and only the files are missing: a trial runs all else
-- that a repair runs.
pub data IsTrial (number : ℕ) : Answer → Type 0 where
  done :
      (spec : Spec) (choice : Choice) (layout : Layout) (vs : List BoundConstraint) (entries : List Entry)
      (new : List ℕ) → IsSpecificationOf trial_text spec → IsTaken spec choice
      → IsLayoutOf spec (trial_bytes number) layout
      → AreViolations (IsFact spec layout (trial_bytes number)) spec vs
      → IsRun spec choice layout (trial_bytes number) entries new Consistent
      → IsTrial number (trial_answer number (length (trial_bytes number)) (length vs) (length entries))
  refused : (answer : Answer) → IsRefused trial_text answer → IsTrial number answer
  unplanned :
      (spec : Spec) (set : StuckSet) → IsSpecificationOf trial_text spec → IsStuckSet spec set → HasNoPlan spec
      → IsTrial number (refused_answer spec set)
  unlaid :
      (spec : Spec) (refusal : Refusal) → IsSpecificationOf trial_text spec
      → first_of (refusals spec (trial_bytes number)) ≡ Some refusal
      → IsTrial number (layout_answer spec refusal)
  stopped :
      (spec : Spec) (choice : Choice) (layout : Layout) (entries : List Entry) (new : List ℕ) (need : Need)
      → IsSpecificationOf trial_text spec → IsTaken spec choice
      → IsLayoutOf spec (trial_bytes number) layout
      → IsRun spec choice layout (trial_bytes number) entries new (Empty need)
      → IsTrial number (empty_answer spec entries need)
