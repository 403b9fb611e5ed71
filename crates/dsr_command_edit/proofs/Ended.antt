-- What comes of an edit, told.
use Rattle.std.proofs.Common.{◌≡◌, ◌∙◌, ℕ, List, ap, length, map, sym, subst}
use Rattle.std.specs.Prelude.{Vec}
use Rattle.std.specs.declared.alloc.Global.{Global}
use Rattle.std.proofs.lemmas.List.{length-map}
use Rattle.dsr_command_edit.specs.Edited.{AreAccepted, IsBrokenGroup, IsEditOf, IsUnwritableLine, broken_answer, edited_answer, is_second, unread_answer, unwritable_answer}
use Rattle.dsr_command_edit.specs.Edited.IsEditOf.{broken, edited, unread, unwritable}
use Rattle.dsr_command_edit.specs.Ends.{IsOutcome}
use Rattle.dsr_command_edit.specs.Opened.{IsOpen}
use Rattle.dsr_command_edit.specs.declared.editing.Outcome.{Outcome}
use Rattle.dsr_command_image.specs.Repaired.{Ending, Saves, Tells}
use Rattle.dsr_edit.specs.Sessions.{IsPaused}
use Rattle.dsr_edit.specs.declared.session.Paused.{Paused}
use Rattle.dsr_edit_text.specs.Scripts as scripts
use Rattle.dsr_edit_text.specs.Scripts.{IsFirstWrong, IsScript, SetText}
use Rattle.dsr_edit_text.specs.Shown.{shown, shown_groups}
use Rattle.dsr_edit_text.specs.declared.faults.ScriptFault.{ScriptFault}
use Rattle.dsr_edit_text.specs.declared.faults.ScriptFault.TheVariants as faults
use Rattle.dsr_edit_text.specs.declared.lines.SetLine.{SetLine}
use Rattle.dsr_ir.specs.declared.declarations.Spec.{Spec}
use Rattle.dsr_ir.specs.declared.layouts.Layout.{Layout}
use Rattle.dsr_meaning.specs.Consistency.{BoundConstraint}
use Rattle.dsr_script.specs.Scripts.{Answer}

-- how the groups ended, in other names
pub outcome_of :
    (spec : Spec) (layout : Layout) (image new : List ℕ) (session : Spec × Layout × List ℕ) (groups slice : List (Vec SetLine Global)) (outcome end : Outcome)
    → slice ≡ groups → session ≡ (spec, layout, image) → outcome ≡ end
    → IsOutcome spec session.1 (shown_groups slice) session.2 new outcome → IsOutcome spec layout (shown_groups groups) image new end
outcome_of spec layout image new session groups slice outcome end same resumed ends is =
    subst (IsOutcome spec layout (shown_groups groups) image new) ends
    (subst (λ (s : Spec × Layout × List ℕ). IsOutcome spec s.1 (shown_groups groups) s.2 new outcome) resumed
    (subst (λ gs. IsOutcome spec session.1 (shown_groups gs) session.2 new outcome) same is))

-- an image may be edited on which a session was put aside
pub opened : (spec : Spec) (layout : Layout) (paused : Paused) → IsPaused spec layout paused → IsOpen spec layout paused.image
opened spec layout paused is = record { image_of = is.image; consistent = is.consistent }

pub groups_many : (groups slice : List (Vec SetLine Global)) (n : ℕ) → slice ≡ groups → n ≡ length slice → n ≡ length (shown_groups groups)
groups_many groups slice n same many =
    many ∙ (ap length same ∙ sym (length-map groups (λ (group : Vec SetLine Global). map shown group.items)))

module _ (ready : Spec × List ℕ) (spec : Spec) (image script : List ℕ) (view : (spec, image) ≡ ready) where
  told : (ending : Ending) → IsEditOf spec image script ending → IsEditOf ready.0 ready.1 script ending
  told ending is = subst (λ (r : Spec × List ℕ). IsEditOf r.0 r.1 script ending) view is

  answered : (answer its : Answer) → its ≡ answer → IsEditOf spec image script (Tells answer) → IsEditOf ready.0 ready.1 script (Tells its)
  answered answer its says is = told (Tells its) (subst (λ a. IsEditOf spec image script (Tells a)) (sym says) is)

  -- a line isn't of the form
  pub unread_told :
      (fault : ScriptFault) (line : ℕ) (answer : Answer) → fault ≡ faults.Line line → scripts.Tells (IsFirstWrong (is_second spec) script) fault
      → answer ≡ unread_answer line → IsEditOf ready.0 ready.1 script (Tells answer)
  unread_told fault line answer is first says =
      answered (unread_answer line) answer says (unread line (subst (scripts.Tells (IsFirstWrong (is_second spec) script)) is first))

  module _ (layout : Layout) (opened : IsOpen spec layout image) (groups : List (List SetText)) (is_script : IsScript (is_second spec) script groups) where
    pub unwritable_told : (line : ℕ) (answer : Answer) → answer ≡ unwritable_answer line → IsUnwritableLine spec layout groups image line
        → IsEditOf ready.0 ready.1 script (Tells answer)
    unwritable_told line answer says is = answered (unwritable_answer line) answer says (unwritable layout groups line opened is_script is)

    pub broken_told : (number : ℕ) (v : BoundConstraint) (answer : Answer) → answer ≡ broken_answer spec number v → IsBrokenGroup spec layout groups image number v
        → IsEditOf ready.0 ready.1 script (Tells answer)
    broken_told number v answer says is = answered (broken_answer spec number v) answer says (broken layout groups number v opened is_script is)

    pub edited_told : (new saved : List ℕ) (count : ℕ) (answer : Answer) → saved ≡ new → count ≡ length groups → answer ≡ edited_answer count
        → AreAccepted spec layout groups image new → IsEditOf ready.0 ready.1 script (Saves saved answer)
    edited_told new saved count answer same counted says accepted =
        told (Saves saved answer)
        (subst (λ bytes. IsEditOf spec image script (Saves bytes answer)) (sym same)
        (subst (λ a. IsEditOf spec image script (Saves new a)) (sym (says ∙ ap edited_answer counted)) (edited layout groups new opened is_script accepted)))
