-- What the program's values say.
use Rattle.std.specs.Prelude.{◌≡◌, ℕ, List}
use Rattle.dsr_command_edit.specs.Edited.{AreAccepted, IsBrokenGroup, IsUnwritableLine}
use Rattle.dsr_command_edit.specs.Named.{AreWritesOf, IsFirstUnwritableLine}
use Rattle.dsr_command_edit.specs.Opened.{Opening, Opens, Refuses}
use Rattle.dsr_command_edit.specs.declared.editing.Edited.{Edited}
use Rattle.dsr_command_edit.specs.declared.editing.Edited.TheVariants as edited
use Rattle.dsr_command_edit.specs.declared.editing.Judgement.{Judgement}
use Rattle.dsr_command_edit.specs.declared.editing.Judgement.TheVariants as judgements
use Rattle.dsr_command_edit.specs.declared.editing.Outcome.{Outcome}
use Rattle.dsr_command_edit.specs.declared.editing.Outcome.TheVariants as outcomes
use Rattle.dsr_command_edit.specs.declared.editing.Step.{Step}
use Rattle.dsr_command_edit.specs.declared.editing.Step.TheVariants as steps
use Rattle.dsr_command_edit.specs.declared.opening.Opened.{Opened}
use Rattle.dsr_command_edit.specs.declared.opening.Opened.TheVariants as opened
use Rattle.dsr_command_image.specs.Repaired.{Ending, Saves, Tells}
use Rattle.dsr_edit.specs.Edits.{IsBroken, IsEdited, MayWriteSome}
use Rattle.dsr_edit.specs.declared.faults.EditFault.{EditFault}
use Rattle.dsr_edit.specs.declared.faults.EditFault.TheVariants as faults
use Rattle.dsr_edit.specs.declared.groups.CellWrite.{CellWrite}
use Rattle.dsr_edit_text.specs.Scripts.{SetText}
use Rattle.dsr_ir.specs.declared.declarations.Spec.{Spec}
use Rattle.dsr_ir.specs.declared.layouts.Layout.{Layout}
use Rattle.dsr_meaning.specs.Counting.{IsIn}
use Rattle.dsr_script.specs.Moves.{shown}

abbrev pub opening_of : Opened → Opening
opening_of (opened.Ready ready) = Opens
opening_of (opened.Refused told) = Refuses (shown told)

-- what may be edited is this image by this specification
abbrev pub HasReady : Spec → List ℕ → Opened → Type 0
HasReady spec image (opened.Ready ready) = ready ≡ (spec, image)
HasReady spec image (opened.Refused told) = Unit {0}

abbrev pub ending_of : Edited → Ending
ending_of (edited.Saved bytes told) = Saves bytes.items (shown told)
ending_of (edited.Unsaved told) = Tells (shown told)

-- ---- for the functions that make groups

-- the writes that the lines name, each of which can be made; or the first line that names none
abbrev pub IsJudgement : Spec → Layout → List SetText → Judgement → Type 0
IsJudgement spec layout group (judgements.Writes writes) =
    AreWritesOf spec group writes.items
    × ((write : CellWrite) → IsIn write writes.items → MayWriteSome spec layout write)
IsJudgement spec layout group (judgements.Unwritable place) =
    IsFirstUnwritableLine spec layout group place

-- the step tells what the fault does
abbrev pub TellsFault : EditFault → Step → Type 0
TellsFault (faults.Cell place) (steps.Unwritable its) = its ≡ place
TellsFault (faults.Broken constraint binding) (steps.Broken its bound) =
    (its ≡ constraint) × (bound ≡ binding)
TellsFault fault step = ⊥

-- one group is made, and the image is as before where it isn't
abbrev pub IsStep : Spec → Layout → List SetText → List ℕ → List ℕ → Step → Type 0
IsStep spec layout group old new steps.Made =
    (writes : List CellWrite) × AreWritesOf spec group writes × IsEdited spec layout writes old new
IsStep spec layout group old new (steps.Unwritable place) =
    IsFirstUnwritableLine spec layout group place
IsStep spec layout group old new (steps.Broken constraint binding) =
    (writes : List CellWrite) × AreWritesOf spec group writes
    × IsBroken spec layout writes old (record { constraint = constraint; binding = binding })

-- how groups end that are made from an image on
abbrev pub IsOutcome : Spec → Layout → List (List SetText) → List ℕ → List ℕ → Outcome → Type 0
IsOutcome spec layout groups old new outcomes.Made = AreAccepted spec layout groups old new
IsOutcome spec layout groups old new (outcomes.Unwritable line) =
    IsUnwritableLine spec layout groups old line
IsOutcome spec layout groups old new (outcomes.Broken number constraint binding) =
    IsBrokenGroup spec layout groups old number
    (record { constraint = constraint; binding = binding })
