-- What a run says of images and texts, by the files that a shelf tells.
use Rattle.std.specs.Prelude.{◌≡◌, ◌↔◌, ◌≤◌, ℕ, List, length, Some}
use Rattle.std.specs.FinMap.{get}
use Rattle.dsr_answers.specs.Refused.{IsMeaning}
use Rattle.dsr_answers.specs.Texts.{verdict_answer}
use Rattle.dsr_ir.specs.declared.declarations.Spec.{Spec}
use Rattle.dsr_ir.specs.declared.layouts.Layout.{Layout}
use Rattle.dsr_meaning.specs.Consistency.{AreViolations, BoundConstraint, IsConsistent}
use Rattle.dsr_meaning.specs.Models.{IsFact}
use Rattle.dsr_meaning.specs.Refusals.{IsLayoutOf}
use Rattle.dsr_script.specs.Outside.{Outside}
use Rattle.dsr_script.specs.Runs.{Halts}
use Rattle.dsr_script.specs.Scripts.{Tell}
use Rattle.dsr_script.specs.declared.status.Status.{Status}
use Rattle.dsr_script.specs.declared.status.Status.TheVariants.{Said}
use Rattle.dsr_script.specs.declared.status.Verdict.{Verdict}
use Rattle.dsr_script.specs.declared.status.Verdict.TheVariants as verdicts
use Rattle.dsr_store.specs.Files.{Files}
use Rattle.dsr_store.specs.Written.{appended}
use Rattle.dsr_syntax_theory.specs.Canonical.{canonical}
use Rattle.dsr_tree.specs.Trees.{TreeShape}
use Rattle.dsr_language_theory.specs.Specifications.{IsSpecificationOf}
use Rattle.dsr_command_theory.specs.Commands.{image_limit, spec_limit, usage}
use Rattle.dsr_command_theory.specs.Usage.{AskForNothing}
use Rattle.dsr_words.specs.Words.{Check, Text, command_of}

-- the words ask to check an image under a specification: their files are within their limits, the
-- text means the specification, and the image has the layout
pub record IsChecked (files : Files) (words : List (List ℕ)) (spec : Spec) (layout : Layout)
    (image : List ℕ) : Type 0 where
  pub spec_name : List ℕ
  pub image_name : List ℕ
  pub asked : command_of words ≡ Some (Check spec_name image_name)
  pub text : List ℕ
  pub spec_file : get files spec_name ≡ Some text
  pub image_file : get files image_name ≡ Some image
  pub short_text : length text ≤ spec_limit
  pub short_image : length image ≤ image_limit spec
  pub means : IsSpecificationOf text spec
  pub laid_out : IsLayoutOf spec image layout

-- a verdict on an image: it says exactly whether the image is
-- consistent, and the text tells exactly its violated bindings
pub record IsVerdictOn (spec : Spec) (layout : Layout) (image : List ℕ) (before after : Outside)
    (verdict : Verdict) : Type 0 where
  pub violations : List BoundConstraint
  pub exactly : AreViolations (IsFact spec layout image) spec violations
  pub told :
      after.output.written ≡ appended before.output.written (verdict_answer spec violations).text
  pub ok : (verdict ≡ verdicts.Ok) ↔ IsConsistent spec layout image
  pub inconsistent : (verdict ≡ verdicts.Inconsistent) ↔ (IsConsistent spec layout image → ⊥)

-- where the shelf tells its files and they can be checked, a command that speaks gives the verdict
-- on the image
abbrev pub ChecksImages : List (List ℕ) → Outside → Outside → Status → Type 0
ChecksImages words before after status =
    (files : Files) (spec : Spec) (layout : Layout) (image : List ℕ) (verdict : Verdict)
    → before.held ≡ Some files → status ≡ Said verdict → IsChecked files words spec layout image
    → IsVerdictOn spec layout image before after verdict

-- some image was checked, with this verdict
abbrev pub WasChecked : Files → List (List ℕ) → Outside → Outside → Verdict → Type 0
WasChecked files words before after verdict =
    (spec : Spec) × (layout : Layout) × (image : List ℕ)
    × IsChecked files words spec layout image × IsVerdictOn spec layout image before after verdict

-- no image is called consistent, and none inconsistent, unless it was checked
abbrev pub ChecksNothingElse : List (List ℕ) → Outside → Outside → Status → Type 0
ChecksNothingElse words before after status =
    (files : Files) (spec_name image_name : List ℕ) → before.held ≡ Some files
    → command_of words ≡ Some (Check spec_name image_name)
    → (status ≡ Said verdicts.Ok → WasChecked files words before after verdicts.Ok)
    × (status ≡ Said verdicts.Inconsistent
    → WasChecked files words before after verdicts.Inconsistent)

-- the words ask for the canonical text of a specification, and this tree is that of its text
pub record IsPrinted (files : Files) (words : List (List ℕ)) (tree : TreeShape) : Type 0 where
  pub spec_name : List ℕ
  pub asked : command_of words ≡ Some (Text spec_name)
  pub text : List ℕ
  pub file : get files spec_name ≡ Some text
  pub short_text : length text ≤ spec_limit
  pub meaning : IsMeaning text tree

-- where the shelf tells its files, a text that is printed is
-- the canonical one of the specification that was asked for
abbrev pub PrintsTexts : List (List ℕ) → Outside → Outside → Status → Type 0
PrintsTexts words before after status =
    (files : Files) (spec_name : List ℕ) → before.held ≡ Some files
    → command_of words ≡ Some (Text spec_name) → status ≡ Said verdicts.Ok
    → (tree : TreeShape) × IsPrinted files words tree
    × (after.output.written ≡ appended before.output.written (canonical tree))

-- words that ask for nothing are told so, with no call of the shelf; and of no other words is that
-- told
pub record TellsUsage (words : List (List ℕ)) (before after : Outside)
    (status : Status) : Type 0 where
  pub told : AskForNothing words → Halts before after status (Tell usage)
  pub nothing_else : status ≡ Said verdicts.Usage → AskForNothing words
