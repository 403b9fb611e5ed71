-- What comes of a repair, from how it ended.
use Rattle.std.proofs.Common.{◌≡◌, ◌≢◌, ◌≤◌, ◌∙◌, ℕ, List, length, Ok, ap, sym, subst}
use Rattle.dsr_answers.specs.Texts.{layout_answer}
use Rattle.dsr_command_image.proofs.Answered.{refused_answer}
use Rattle.dsr_ir.specs.declared.declarations.Spec.{Spec}
use Rattle.dsr_ir.specs.declared.layouts.Layout.{Layout}
use Rattle.dsr_layout.specs.Telling as layouts
use Rattle.dsr_layout.specs.declared.faults.LayoutFault.{LayoutFault}
use Rattle.dsr_layout.specs.declared.faults.LayoutFault.TheVariants as faults
use Rattle.dsr_meaning.specs.Refusals.{Refusal, refusals}
use Rattle.dsr_plan_theory.specs.declared.choices.Choice.{Choice}
use Rattle.dsr_repair_theory.specs.Runs.{IsRun}
use Rattle.dsr_repair_theory.specs.declared.entries.Entry.{Entry}
use Rattle.dsr_repair_theory.specs.declared.turns.Need.{Need}
use Rattle.dsr_repair_theory.specs.declared.turns.Outcome.{Outcome}
use Rattle.dsr_repair_theory.specs.declared.turns.Outcome.TheVariants.{Consistent, Empty}
use Rattle.dsr_report.specs.Reports.{entries_text}
use Rattle.dsr_step_theory.specs.Images.{IsImageOf}
use Rattle.dsr_script.specs.Moves.{shown}
use Rattle.dsr_script.specs.declared.moves.Told.{Told}
use Rattle.dsr_command_image.specs.Repaired.{IsRepairOf, Saves, Tells, ended_answer, stopped_answer}
use Rattle.dsr_command_image.specs.Repaired.IsRepairOf.{mended, stopped, unlaid}

module _ (spec : Spec) (choice : Choice) (image : List ℕ) where
  -- a fault of the image's layout, told
  pub unlaid_told :
      (its : Spec) (bytes : List ℕ) (fault : LayoutFault) (told : Told) → its ≡ spec → bytes ≡ image
      → layouts.Tells (refusals its bytes) fault
      → ((refusal : Refusal) → layouts.told_as refusal ≡ fault → shown told ≡ layout_answer its refusal)
      → fault ≢ faults.NoMemory → IsRepairOf spec choice image (Tells (shown told))
  unlaid_told its bytes fault told same held tells says known =
      refused_answer {E = LayoutFault} spec image fault (λ a. IsRepairOf spec choice image (Tells a)) unlaid (Ok told)
      (subst (λ s. layouts.Tells (refusals s image) fault) same
      (subst (λ b. layouts.Tells (refusals its b) fault) held tells))
      (λ refusal is. says refusal is ∙ ap (λ s. layout_answer s refusal) same) known

  -- a run on the image that ended so
  run_ended :
      (layout : Layout) (bytes new : List ℕ) (entries : List Entry) (outcome end : Outcome)
      → bytes ≡ image → outcome ≡ end → IsRun spec choice layout bytes entries new outcome
      → IsRun spec choice layout image entries new end
  run_ended layout bytes new entries outcome end held ends run =
      subst (λ b. IsRun spec choice layout b entries new end) held
      (subst (IsRun spec choice layout bytes entries new) ends run)

  pub image_of :
      (its : Spec) (bytes : List ℕ) (layout : Layout) → its ≡ spec → bytes ≡ image
      → IsImageOf its layout bytes → IsImageOf spec layout image
  image_of its bytes layout same held of =
      subst (λ s. IsImageOf s layout image) same (subst (IsImageOf its layout) held of)

  pub mended_told :
      (its : Spec) (layout : Layout) (bytes before new saved : List ℕ) (entries : List Entry) (outcome : Outcome)
      (lines : List ℕ) (count : ℕ) (told : Told) → its ≡ spec → bytes ≡ image → before ≡ image → saved ≡ new
      → IsImageOf its layout bytes → IsRun spec choice layout before entries new outcome
      → outcome ≡ Consistent → lines ≡ entries_text spec entries → count ≡ length entries
      → shown told ≡ ended_answer lines count → IsRepairOf spec choice image (Saves saved (shown told))
  mended_told its layout bytes before new saved entries outcome lines count told same held begun stays of run ends lines_are counted says =
      subst (λ b. IsRepairOf spec choice image (Saves b (shown told))) (sym stays)
      (subst (λ a. IsRepairOf spec choice image (Saves new a)) (sym (says ∙ (λ i. ended_answer (lines_are i) (counted i))))
      (mended layout entries new (image_of its bytes layout same held of) (run_ended layout before new entries outcome Consistent begun ends run)))

  pub stopped_told :
      (its : Spec) (layout : Layout) (bytes before new : List ℕ) (entries : List Entry) (outcome : Outcome)
      (need : Need) (lines : List ℕ) (count : ℕ) (told : Told) → its ≡ spec → bytes ≡ image → before ≡ image
      → IsImageOf its layout bytes → IsRun spec choice layout before entries new outcome
      → outcome ≡ Empty need → lines ≡ entries_text spec entries → count ≡ length entries
      → shown told ≡ stopped_answer its lines count need → IsRepairOf spec choice image (Tells (shown told))
  stopped_told its layout bytes before new entries outcome need lines count told same held begun of run ends lines_are counted says =
      subst (λ a. IsRepairOf spec choice image (Tells a)) (sym (says ∙ (λ i. stopped_answer (same i) (lines_are i) (counted i) need)))
      (stopped layout entries new need (image_of its bytes layout same held of) (run_ended layout before new entries outcome (Empty need) begun ends run))
