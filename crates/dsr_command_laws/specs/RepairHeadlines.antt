-- What a run says of repairs and trials, by the files that a shelf tells.
use Rattle.std.specs.Prelude.{◌≡◌, ◌≤◌, ℕ, List, length, Some}
use Rattle.std.specs.FinMap.{get}
use Rattle.dsr_command_theory.specs.Commands.{image_limit, spec_limit}
use Rattle.dsr_words.specs.Words.{Repair, Trial, command_of}
use Rattle.dsr_command_laws.specs.ImageHeadlines.{IsChecked, IsVerdictOn}
use Rattle.dsr_ir.specs.declared.declarations.Spec.{Spec}
use Rattle.dsr_ir.specs.declared.layouts.Layout.{Layout}
use Rattle.dsr_command_laws.specs.Repairs.{IsRepairVerdict, IsTold, WasRepaired, WasStopped}
use Rattle.dsr_script.specs.Outside.{Outside, Stands}
use Rattle.dsr_script.specs.Scripts.{Answer}
use Rattle.dsr_script.specs.declared.status.Status.{Status}
use Rattle.dsr_script.specs.declared.status.Status.TheVariants.{Said}
use Rattle.dsr_script.specs.declared.status.Verdict.{Verdict}
use Rattle.dsr_script.specs.declared.status.Verdict.TheVariants as verdicts
use Rattle.dsr_store.specs.Files.{Files}
use Rattle.dsr_command_trial.specs.Trials.{IsTrial}
use Rattle.dsr_language_theory.specs.Specifications.{IsSpecificationOf}

-- the words ask to repair this image under this specification, and to save it under the name: their
-- files are within their limits, and the text means the specification
pub record IsToRepair (files : Files) (words : List (List ℕ)) (spec : Spec)
    (image name : List ℕ) : Type 0 where
  pub spec_name : List ℕ
  pub image_name : List ℕ
  pub asked : command_of words ≡ Some (Repair spec_name image_name name)
  pub text : List ℕ
  pub spec_file : get files spec_name ≡ Some text
  pub image_file : get files image_name ≡ Some image
  pub short_text : length text ≤ spec_limit
  pub short_image : length image ≤ image_limit spec
  pub means : IsSpecificationOf text spec

-- where the shelf tells its files and the words ask for a repair, a command that speaks gives the
-- verdict on it
abbrev pub RepairsImages : List (List ℕ) → Outside → Outside → Status → Type 0
RepairsImages words before after status =
    (files : Files) (spec : Spec) (image name : List ℕ) (verdict : Verdict)
    → before.held ≡ Some files
    → status ≡ Said verdict → IsToRepair files words spec image name
    → IsRepairVerdict spec image name before after verdict

-- some image was to be repaired, of which this is so
abbrev pub IsOfSome : (Spec → List ℕ → Type 0) → Files → List (List ℕ) → List ℕ → Type 0
IsOfSome Is files words name =
    (spec : Spec) × (image : List ℕ) × IsToRepair files words spec image name × Is spec image

-- no image is said to be repaired, and no supply to be empty, unless due steps were made that come
-- to this
abbrev pub RepairsNothingElse : List (List ℕ) → Outside → Outside → Status → Type 0
RepairsNothingElse words before after status =
    (files : Files) (spec_name image_name name : List ℕ) → before.held ≡ Some files
    → command_of words ≡ Some (Repair spec_name image_name name)
    → (status ≡ Said verdicts.Ok
    → IsOfSome (λ spec image. WasRepaired spec image name before after) files words name)
    × (status ≡ Said verdicts.SupplyEmpty
    → IsOfSome (λ spec image. WasStopped spec image before after) files words name)

-- Where a repair saved an image, words that ask to check what stands under the name, under the same
-- specification, get the verdict that it is consistent.
abbrev pub RepairsLast : List (List ℕ) → Outside → Outside → Status → Type 0
RepairsLast words before after status =
    (files saved : Files) (spec : Spec) (image name : List ℕ) → before.held ≡ Some files
    → after.held ≡ Some saved
    → status ≡ Said verdicts.Ok → IsToRepair files words spec image name
    → (others : List (List ℕ)) (layout : Layout) (new : List ℕ)
    (check : IsChecked saved others spec layout new)
    → check.image_name ≡ name → (first last : Outside) (verdict : Verdict)
    → IsVerdictOn spec layout new first last verdict → verdict ≡ verdicts.Ok

-- the answer to the trial of this number was told, and nothing saved
pub record WasTried (number : ℕ) (before after : Outside) (verdict : Verdict) : Type 0 where
  pub answer : Answer
  pub is : IsTrial number answer
  pub says : verdict ≡ answer.verdict
  pub told : IsTold before after answer
  pub stands : Stands before after

-- a command that speaks, where the words ask for a trial, tells its answer
abbrev pub TellsTrials : List (List ℕ) → Outside → Outside → Status → Type 0
TellsTrials words before after status =
    (number : ℕ) (verdict : Verdict) → command_of words ≡ Some (Trial number)
    → status ≡ Said verdict
    → WasTried number before after verdict
