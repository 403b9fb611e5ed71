-- What is saved and told of the edits of an image by a script.
use Rattle.std.specs.Prelude.{◌≡◌, ◌+◌, ◌++◌, ℕ, Bool, nat_eq, List, [], ◌∷◌, length, codes, decimal}
use Rattle.dsr_answers.specs.Texts.{binding_text, constraint_name}
use Rattle.dsr_command_edit.specs.Named.{AreWritesOf, IsFirstUnwritableLine}
use Rattle.dsr_command_edit.specs.Opened.{IsOpen}
use Rattle.dsr_command_image.specs.Repaired.{Ending, Saves, Tells}
use Rattle.dsr_edit.specs.Edits.{IsBroken, IsEdited}
use Rattle.dsr_edit.specs.declared.groups.CellWrite.{CellWrite}
use Rattle.dsr_edit_text.specs.Scripts.{IsFirstWrong, IsScript, SetText, script_texts}
use Rattle.dsr_ir.specs.declared.declarations.Spec.{Spec}
use Rattle.dsr_ir.specs.declared.layouts.Layout.{Layout}
use Rattle.dsr_meaning.specs.Consistency.{BoundConstraint}
use Rattle.dsr_script.specs.Scripts.{Answer}
use Rattle.dsr_script.specs.declared.status.Verdict.TheVariants as verdicts

-- ---- what is told

-- the line with this number, counted from 1, isn't of the form
abbrev pub unread_answer : ℕ → Answer
unread_answer line = record {
  verdict = verdicts.EditRefused;
  text = codes "edit 1 " ++ decimal line ++ codes "\n";
}

-- the line names no cell, or a fixed field, or its value is too wide
abbrev pub unwritable_answer : ℕ → Answer
unwritable_answer line = record {
  verdict = verdicts.EditRefused;
  text = codes "edit 2 " ++ decimal line ++ codes "\n";
}

-- after the group with this number, counted from 1, the binding would be the first violated one
abbrev pub broken_answer : Spec → ℕ → BoundConstraint → Answer
broken_answer spec group v = record {
  verdict = verdicts.EditRefused;
  text = codes "edit 3 " ++ decimal group ++ codes " " ++ constraint_name spec v.constraint
      ++ codes " " ++ binding_text spec v.binding ++ codes "\n";
}

-- so many groups were made
abbrev pub edited_answer : ℕ → Answer
edited_answer groups = record {
  verdict = verdicts.Ok;
  text = codes "edited " ++ decimal groups ++ codes "\n";
}

-- ---- groups, one after the other

-- the writes of each group can be made, and the image is consistent after each of them
pub data AreAccepted (spec : Spec) (layout : Layout) :
    List (List SetText) → List ℕ → List ℕ → Type 0 where
  none : {bytes : List ℕ} → AreAccepted spec layout [] bytes bytes
  more :
      {groups : List (List SetText)} {old middle new : List ℕ} → (group : List SetText)
      (writes : List CellWrite) → AreWritesOf spec group writes
      → IsEdited spec layout writes old middle → AreAccepted spec layout groups middle new
      → AreAccepted spec layout (group ∷ groups) old new

-- these groups come before one of the script's, and are accepted
pub record HasAccepted (spec : Spec) (layout : Layout) (groups : List (List SetText))
    (image : List ℕ) (before : List (List SetText)) (group : List SetText)
    (now : List ℕ) : Type 0 where
  pub after : List (List SetText)
  pub groups_are : groups ≡ before ++ group ∷ after
  pub accepted : AreAccepted spec layout before image now

-- the groups before one were accepted, and the line with this number is the first of that one that
-- names no write which can be made
pub record IsUnwritableLine (spec : Spec) (layout : Layout) (groups : List (List SetText))
    (image : List ℕ) (number : ℕ) : Type 0 where
  pub before : List (List SetText)
  pub group : List SetText
  pub now : List ℕ
  pub accepted : HasAccepted spec layout groups image before group now
  pub place : ℕ
  pub first : IsFirstUnwritableLine spec layout group place
  pub number_is : number ≡ length (script_texts before) + place + 1

-- the groups before the one with this number were accepted, the writes of that one can be made, and
-- after them this is the first violated binding
pub record IsBrokenGroup (spec : Spec) (layout : Layout) (groups : List (List SetText))
    (image : List ℕ) (number : ℕ) (v : BoundConstraint) : Type 0 where
  pub before : List (List SetText)
  pub group : List SetText
  pub now : List ℕ
  pub accepted : HasAccepted spec layout groups image before group now
  pub writes : List CellWrite
  pub are_writes : AreWritesOf spec group writes
  pub broken : IsBroken spec layout writes now v
  pub number_is : number ≡ length before + 1

-- ---- what comes of an edit

-- names are those of a specification of version 2
abbrev pub is_second : Spec → Bool
is_second spec = nat_eq spec.base.version 2

-- A consistent image is edited by a script. A line isn't of the form, and the first one is told. Or
-- a line can't be made, or a constraint would be violated after a group, and the first is told. Or
-- all groups are made, and the bytes after them are saved.
pub data IsEditOf (spec : Spec) (image script : List ℕ) : Ending → Type 0 where
  unread :
      (line : ℕ) → IsFirstWrong (is_second spec) script line
      → IsEditOf spec image script (Tells (unread_answer line))
  unwritable :
      (layout : Layout) (groups : List (List SetText)) (line : ℕ) → IsOpen spec layout image
      → IsScript (is_second spec) script groups → IsUnwritableLine spec layout groups image line
      → IsEditOf spec image script (Tells (unwritable_answer line))
  broken :
      (layout : Layout) (groups : List (List SetText)) (number : ℕ) (v : BoundConstraint)
      → IsOpen spec layout image → IsScript (is_second spec) script groups
      → IsBrokenGroup spec layout groups image number v
      → IsEditOf spec image script (Tells (broken_answer spec number v))
  edited :
      (layout : Layout) (groups : List (List SetText)) (new : List ℕ) → IsOpen spec layout image
      → IsScript (is_second spec) script groups → AreAccepted spec layout groups image new
      → IsEditOf spec image script (Saves new (edited_answer (length groups)))
