-- A trial, from what was found and done.
use Rattle.std.proofs.Common.{◌≡◌, ◌≢◌, ◌∙◌, ℕ, List, Some, Result, IfOk, length, map, ap, sym, subst}
use Rattle.std.proofs.lemmas.List.{length-map}
use Rattle.dsr_answers.specs.Texts.{layout_answer}
use Rattle.dsr_command_image.proofs.Answered.{refused_answer}
use Rattle.dsr_fixpoint.specs.Models.{IsLaidOut}
use Rattle.dsr_gen.specs.Images.{trial_bytes}
use Rattle.dsr_gen.specs.Texts.{trial_text}
use Rattle.dsr_ir.specs.declared.declarations.Spec.{Spec}
use Rattle.dsr_ir.specs.declared.layouts.Layout.{Layout}
use Rattle.dsr_ir.specs.declared.tuples.Binding.{Binding}
use Rattle.dsr_layout.specs.Telling.{Tells, told_as}
use Rattle.dsr_layout.specs.declared.faults.LayoutFault.{LayoutFault}
use Rattle.dsr_layout.specs.declared.faults.LayoutFault.TheVariants as faults
use Rattle.dsr_meaning.specs.Consistency.{AreViolations, bound_constraint}
use Rattle.dsr_meaning.specs.Models.{IsFact}
use Rattle.dsr_meaning.specs.Legal.{IsLegalLayout}
use Rattle.dsr_meaning.specs.Refusals.{IsLayoutOf, Refusal, first_of, refusals}
use Rattle.dsr_plan_theory.specs.Taken.{IsTaken}
use Rattle.dsr_plan_theory.specs.declared.choices.Choice.{Choice}
use Rattle.dsr_command_image.specs.Repaired.{empty_answer}
use Rattle.dsr_step_theory.specs.Images.{IsImageOf}
use Rattle.dsr_repair_theory.specs.Runs.{IsRun}
use Rattle.dsr_repair_theory.specs.declared.entries.Entry.{Entry}
use Rattle.dsr_repair_theory.specs.declared.turns.Need.{Need}
use Rattle.dsr_repair_theory.specs.declared.turns.Outcome.{Outcome}
use Rattle.dsr_repair_theory.specs.declared.turns.Outcome.TheVariants.{Consistent, Empty}
use Rattle.dsr_script.specs.Moves.{shown}
use Rattle.dsr_script.specs.declared.moves.Told.{Told}
use Rattle.dsr_language_theory.specs.Specifications.{IsSpecificationOf}
use Rattle.dsr_command_trial.specs.Trials.{IsTrial, trial_answer}
use Rattle.dsr_command_trial.specs.Trials.IsTrial.{done, stopped, unlaid}

-- the layout of an image, as the search for violated bindings asks for it
pub laid_out :
    (spec its : Spec) (layout : Layout) (bytes held : List ℕ) → its ≡ spec → held ≡ bytes
    → IsImageOf spec layout bytes → IsLegalLayout layout → IsLaidOut its layout held
laid_out spec its layout bytes held same are of legal =
    subst (λ s. IsLaidOut s layout held) (sym same) (subst (IsLaidOut spec layout) (sym are)
    (record { typed = of.typed; layout_is = of.layout_is; legal = legal; small = of.small }))

-- a fault of the image's layout, told
pub trial_unlaid :
    {E : Type 0} (number : ℕ) (spec : Spec) → IsSpecificationOf trial_text spec → (its : Spec) (bytes : List ℕ)
    (fault : LayoutFault) (answer : Result Told E) → its ≡ spec → bytes ≡ trial_bytes number
    → Tells (refusals its bytes) fault
    → IfOk answer
    (λ told. (refusal : Refusal) → told_as refusal ≡ fault → shown told ≡ layout_answer its refusal)
    → IfOk answer (λ _. fault ≢ faults.NoMemory)
    → IfOk answer (λ told. IsTrial number (shown told))
trial_unlaid number spec meant its bytes fault answer same made tells says known =
    refused_answer its bytes fault (IsTrial number)
    (λ refusal first. subst (λ s. IsTrial number (layout_answer s refusal)) (sym same)
    (unlaid spec refusal meant
    (subst (λ s. first_of (refusals s (trial_bytes number)) ≡ Some refusal) same
    (subst (λ b. first_of (refusals its b) ≡ Some refusal) made first))))
    answer tells says known

module _ (number : ℕ) (spec : Spec) (choice : Choice) (layout : Layout) (bytes : List ℕ)
    (made : bytes ≡ trial_bytes number) (meant : IsSpecificationOf trial_text spec) (taken : IsTaken spec choice)
    (of : IsImageOf spec layout bytes) (entries : List Entry) (new : List ℕ) (outcome : Outcome)
    (run : IsRun spec choice layout bytes entries new outcome) where
  -- the layout of the image
  layout_made : IsLayoutOf spec (trial_bytes number) layout
  layout_made = subst (λ b. IsLayoutOf spec b layout) made of.layout_is

  run_made : (end : Outcome) → outcome ≡ end → IsRun spec choice layout (trial_bytes number) entries new end
  run_made end ends =
      subst (λ b. IsRun spec choice layout b entries new end) made
      (subst (IsRun spec choice layout bytes entries new) ends run)

  pub trial_done :
      (vs : List (ℕ × Binding)) (many violated updates : ℕ)
      → AreViolations (IsFact spec layout bytes) spec (map bound_constraint vs) → outcome ≡ Consistent
      → many ≡ length bytes → violated ≡ length vs → updates ≡ length entries
      → IsTrial number (trial_answer number many violated updates)
  trial_done vs many violated updates are ends many_are violated_are updates_are =
      let all : IsTrial number (trial_answer number (length (trial_bytes number)) (length (map bound_constraint vs)) (length entries)) =
      done spec choice layout (map bound_constraint vs) entries new meant taken layout_made
      (subst (λ b. AreViolations (IsFact spec layout b) spec (map bound_constraint vs)) made are) (run_made Consistent ends) in
      let as_many : length (trial_bytes number) ≡ many = sym (many_are ∙ ap length made) in
      let as_violated : length (map bound_constraint vs) ≡ violated = length-map vs bound_constraint ∙ sym violated_are in
      subst (λ n. IsTrial number (trial_answer number n violated updates)) as_many
      (subst (λ n. IsTrial number (trial_answer number (length (trial_bytes number)) n updates)) as_violated
      (subst (λ n. IsTrial number (trial_answer number (length (trial_bytes number)) (length (map bound_constraint vs)) n)) (sym updates_are) all))

  pub trial_stopped : (need : Need) → outcome ≡ Empty need → IsTrial number (empty_answer spec entries need)
  trial_stopped need ends =
      stopped spec choice layout entries new need meant taken layout_made (run_made (Empty need) ends)
