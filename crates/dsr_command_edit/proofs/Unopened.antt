-- Why an image can't be edited, told.
use Rattle.std.proofs.Common.{◌≡◌, ◌≢◌, ℕ, List, [], ◌∷◌, Ok, map, refl, sym, subst}
use Rattle.dsr_answers.specs.Texts.{layout_answer, verdict_answer}
use Rattle.dsr_command_edit.specs.Opened.{IsOpening, Refuses}
use Rattle.dsr_command_edit.specs.Opened.IsOpening.{inconsistent, unlaid}
use Rattle.dsr_command_image.proofs.Answered.{refused_answer}
use Rattle.dsr_ir.specs.declared.declarations.Spec.{Spec}
use Rattle.dsr_ir.specs.declared.layouts.Layout.{Layout}
use Rattle.dsr_ir.specs.declared.tuples.Binding.{Binding}
use Rattle.dsr_layout.specs.Telling.{Tells, told_as}
use Rattle.dsr_layout.specs.declared.faults.LayoutFault.{LayoutFault}
use Rattle.dsr_layout.specs.declared.faults.LayoutFault.TheVariants as faults
use Rattle.dsr_meaning.specs.Consistency.{AreViolations, bound_constraint}
use Rattle.dsr_meaning.specs.Models.{IsFact}
use Rattle.dsr_meaning.specs.Refusals.{IsLayoutOf, Refusal, refusals}
use Rattle.dsr_script.specs.Moves.{shown}
use Rattle.dsr_script.specs.declared.moves.Told.{Told}

some_mapped : {A B : Type 0} (f : A → B) (xs : List A) → xs ≢ [] → map f xs ≢ []
some_mapped f [] some none = some refl
some_mapped f (x ∷ xs) some none = absurd cc

module _ (spec : Spec) (image : List ℕ) where
  -- it has no layout
  pub unlaid_told :
      (bytes : List ℕ) (fault : LayoutFault) (told : Told) → bytes ≡ image → Tells (refusals spec bytes) fault
      → ((refusal : Refusal) → told_as refusal ≡ fault → shown told ≡ layout_answer spec refusal)
      → fault ≢ faults.NoMemory → IsOpening spec image (Refuses (shown told))
  unlaid_told bytes fault told held tells says known =
      refused_answer {E = LayoutFault} spec image fault (λ a. IsOpening spec image (Refuses a)) unlaid (Ok told)
      (subst (λ b. Tells (refusals spec b) fault) held tells) says known

  -- it isn't consistent
  pub violated_told :
      (layout : Layout) (bytes : List ℕ) (vs : List (ℕ × Binding)) (told : Told) → bytes ≡ image → IsLayoutOf spec image layout
      → AreViolations (IsFact spec layout bytes) spec (map bound_constraint vs) → vs ≢ []
      → shown told ≡ verdict_answer spec (map bound_constraint vs) → IsOpening spec image (Refuses (shown told))
  violated_told layout bytes vs told held laid are some says =
      subst (λ a. IsOpening spec image (Refuses a)) (sym says)
      (inconsistent layout (map bound_constraint vs) laid (subst (λ b. AreViolations (IsFact spec layout b) spec (map bound_constraint vs)) held are) (some_mapped bound_constraint vs some))
