-- What a run says of edits, by the files that a shelf tells.
use Rattle.std.specs.Prelude.{◌≡◌, ◌≤◌, ◌↔◌, ◌⊎◌, ℕ, List, length, Some}
use Rattle.std.specs.FinMap.{get}
use Rattle.dsr_answers.specs.Texts.{verdict_answer}
use Rattle.dsr_command_edit.specs.Edited.{AreAccepted, IsBrokenGroup, IsEditOf, IsUnwritableLine, broken_answer, edited_answer, is_second, unread_answer, unwritable_answer}
use Rattle.dsr_command_edit.specs.Opened.{IsOpen}
use Rattle.dsr_command_image.specs.Repaired.{Ending, Saves, Tells}
use Rattle.dsr_command_laws.specs.Repairs.{HasLayout, IsTold, WasUnlaid}
use Rattle.dsr_command_theory.specs.Commands.{image_limit, script_limit, spec_limit}
use Rattle.dsr_words.specs.Words.{Edit, command_of}
use Rattle.dsr_edit_text.specs.Scripts.{IsFirstWrong, IsScript, SetText}
use Rattle.dsr_ir.specs.declared.declarations.Spec.{Spec}
use Rattle.dsr_ir.specs.declared.layouts.Layout.{Layout}
use Rattle.dsr_language_theory.specs.Specifications.{IsSpecificationOf}
use Rattle.dsr_meaning.specs.Consistency.{AreViolations, BoundConstraint, IsConsistent}
use Rattle.dsr_meaning.specs.Models.{IsFact}
use Rattle.dsr_meaning.specs.Refusals.{IsLayoutOf}
use Rattle.dsr_script.specs.Outside.{IsSaved, Outside, Stands}
use Rattle.dsr_script.specs.declared.status.Status.{Status}
use Rattle.dsr_script.specs.declared.status.Status.TheVariants.{Said}
use Rattle.dsr_script.specs.declared.status.Verdict.{Verdict}
use Rattle.dsr_script.specs.declared.status.Verdict.TheVariants as verdicts
use Rattle.dsr_store.specs.Files.{Files}

-- the words ask to edit an image by a script, and to save what comes of it under the name: the
-- files are within their limits, and the text means the specification
pub record IsToEdit (files : Files) (words : List (List ℕ)) (spec : Spec)
    (image script name : List ℕ) : Type 0 where
  pub spec_name : List ℕ
  pub image_name : List ℕ
  pub script_name : List ℕ
  pub asked : command_of words ≡ Some (Edit spec_name image_name script_name name)
  pub text : List ℕ
  pub spec_file : get files spec_name ≡ Some text
  pub image_file : get files image_name ≡ Some image
  pub script_file : get files script_name ≡ Some script
  pub short_text : length text ≤ spec_limit
  pub short_image : length image ≤ image_limit spec
  pub short_script : length script ≤ script_limit
  pub means : IsSpecificationOf text spec

-- the image has a layout, and isn't consistent
abbrev pub IsInconsistent : Spec → List ℕ → Type 0
IsInconsistent spec image =
    (layout : Layout) × IsLayoutOf spec image layout × (IsConsistent spec layout image → ⊥)

-- nothing is saved, and exactly the violated bindings are told
pub record WasUnopened (spec : Spec) (image : List ℕ) (before after : Outside) : Type 0 where
  pub layout : Layout
  pub laid_out : IsLayoutOf spec image layout
  pub violations : List BoundConstraint
  pub exactly : AreViolations (IsFact spec layout image) spec violations
  pub stands : Stands before after
  pub told : IsTold before after (verdict_answer spec violations)

-- All groups of the script were made, each as its lines say, and the image was consistent after
-- each. What they left is saved, and their number told.
pub record WasEdited (spec : Spec) (image script name : List ℕ)
    (before after : Outside) : Type 0 where
  pub layout : Layout
  pub opened : IsOpen spec layout image
  pub groups : List (List SetText)
  pub are_groups : IsScript (is_second spec) script groups
  pub new : List ℕ
  pub accepted : AreAccepted spec layout groups image new
  pub saved : IsSaved before after name new
  pub told : IsTold before after (edited_answer (length groups))

-- nothing is saved, and the first reason is told for which not all groups can be made
pub data WasUnedited (spec : Spec) (image script : List ℕ) (before after : Outside) : Type 0 where
  unread :
      (line : ℕ) → IsFirstWrong (is_second spec) script line → Stands before after
      → IsTold before after (unread_answer line) → WasUnedited spec image script before after
  unwritable :
      (layout : Layout) (groups : List (List SetText)) (line : ℕ) → IsOpen spec layout image
      → IsScript (is_second spec) script groups → IsUnwritableLine spec layout groups image line
      → Stands before after → IsTold before after (unwritable_answer line)
      → WasUnedited spec image script before after
  broken :
      (layout : Layout) (groups : List (List SetText)) (number : ℕ) (v : BoundConstraint)
      → IsOpen spec layout image → IsScript (is_second spec) script groups
      → IsBrokenGroup spec layout groups image number v → Stands before after
      → IsTold before after (broken_answer spec number v)
      → WasUnedited spec image script before after

-- what is saved and told is what an edit ends with
abbrev pub HasEnded : List ℕ → Outside → Outside → Verdict → Ending → Type 0
HasEnded name before after verdict (Saves bytes answer) =
    IsSaved before after name bytes × (verdict ≡ answer.verdict) × IsTold before after answer
HasEnded name before after verdict (Tells answer) =
    Stands before after × (verdict ≡ answer.verdict) × IsTold before after answer

-- A verdict on an edit. It says exactly whether the image has a layout, and where it has one,
-- whether it is consistent; where it is, whether all groups of the script were made. Where the
-- image is consistent, the run ended so as the edit ends: by all groups, or by the first reason
-- against them.
pub record IsEditVerdict (spec : Spec) (image script name : List ℕ) (before after : Outside)
    (verdict : Verdict) : Type 0 where
  pub no_layout : (verdict ≡ verdicts.LayoutRefused) ↔ (HasLayout spec image → ⊥)
  pub inconsistent : (verdict ≡ verdicts.Inconsistent) ↔ IsInconsistent spec image
  pub otherwise :
      (layout : Layout) → IsOpen spec layout image
      → (verdict ≡ verdicts.Ok) ⊎ (verdict ≡ verdicts.EditRefused)
  pub unlaid : verdict ≡ verdicts.LayoutRefused → WasUnlaid spec image before after
  pub unopened : verdict ≡ verdicts.Inconsistent → WasUnopened spec image before after
  pub edited : verdict ≡ verdicts.Ok → WasEdited spec image script name before after
  pub unedited : verdict ≡ verdicts.EditRefused → WasUnedited spec image script before after
  pub exactly :
      (layout : Layout) → IsOpen spec layout image → (ending : Ending)
      → IsEditOf spec image script ending → HasEnded name before after verdict ending

-- where the shelf tells its files and the words ask for an edit, a command that speaks gives the
-- verdict
abbrev pub EditsImages : List (List ℕ) → Outside → Outside → Status → Type 0
EditsImages words before after status =
    (files : Files) (spec : Spec) (image script name : List ℕ) (verdict : Verdict)
    → before.held ≡ Some files → status ≡ Said verdict
    → IsToEdit files words spec image script name
    → IsEditVerdict spec image script name before after verdict

-- no image is said to be edited, and no script refused, unless that was tried
abbrev pub EditsNothingElse : List (List ℕ) → Outside → Outside → Status → Type 0
EditsNothingElse words before after status =
    (files : Files) (spec_name image_name script_name name : List ℕ) (verdict : Verdict)
    → before.held ≡ Some files
    → command_of words ≡ Some (Edit spec_name image_name script_name name)
    → status ≡ Said verdict → (verdict ≡ verdicts.Ok) ⊎ (verdict ≡ verdicts.EditRefused)
    → (spec : Spec) × (image : List ℕ) × (script : List ℕ)
    × IsToEdit files words spec image script name
    × IsEditVerdict spec image script name before after verdict
