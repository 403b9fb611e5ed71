-- What is answered about a report, from what was read of it and what was found.
use Rattle.std.proofs.Common.{◌≡◌, ◌≢◌, ◌∙◌, ℕ, List, Result, Ok, Err, IfOk, length, sym, ap, subst}
use Rattle.bstr.specs.Text.{lines_of}
use Rattle.dsr_command_audit.proofs.ToldTexts.{told_text}
use Rattle.dsr_command_audit.specs.Audited.{IsAuditAnswer}
use Rattle.dsr_command_audit.specs.Audited.IsAuditAnswer.{audited, misread, unlike}
use Rattle.dsr_command_audit.specs.Logs.{IsLogOf}
use Rattle.dsr_command_audit.specs.Misread.{IsMisread}
use Rattle.dsr_command_audit.specs.ReportTexts.{audit_words, audited_answer, line_answer, refused_answer, undo_words, undone_answer}
use Rattle.dsr_command_audit.specs.Undone.{IsUndoOf}
use Rattle.dsr_command_audit.specs.Undone.IsUndoOf.{back, stopped, misread as unread}
use Rattle.dsr_command_image.specs.Repaired.{Saves, Tells}
use Rattle.dsr_ir.specs.declared.declarations.Spec.{Spec}
use Rattle.dsr_ir.specs.declared.layouts.Layout.{Layout}
use Rattle.dsr_plan_theory.specs.declared.choices.Choice.{Choice}
use Rattle.dsr_repair_theory.specs.declared.entries.Entry.{Entry}
use Rattle.dsr_replay.specs.Audits.{IsAuditFault, IsAudited}
use Rattle.dsr_replay.specs.declared.faults.AuditFault.{AuditFault}
use Rattle.dsr_replay.specs.declared.faults.AuditFault.TheVariants as faults
use Rattle.dsr_report.specs.Reports.{report_text}
use Rattle.dsr_report_read.specs.Forms.{IsFirstWrong, IsReportOf, IsReported}
use Rattle.dsr_report_read.specs.Grouped.{entries_of}
use Rattle.dsr_report_read.specs.Reads.{Tells as Faults}
use Rattle.dsr_report_read.specs.declared.faults.ReadFault.{ReadFault}
use Rattle.dsr_report_read.specs.declared.faults.ReadFault.TheVariants as reads
use Rattle.dsr_report_read.specs.declared.lines.Line.{Line}
use Rattle.dsr_script.specs.Moves.{shown}
use Rattle.dsr_script.specs.Scripts.{Answer}
use Rattle.dsr_script.specs.declared.moves.Told.{Told}
use Rattle.dsr_step_theory.specs.Images.{IsImageOf}
use Rattle.dsr_undo_laws.specs.TakingBack.{AreTakenBack, IsRefused}
use Rattle.dsr_undo_laws.specs.declared.faults.UndoFault.{UndoFault}

-- an answer is one of the kind, where it says so
pub told_so : {E : Type 0} (Is : Answer → Type 0) (answer : Answer) (r : Result Told E) → IfOk r (λ told. shown told ≡ answer) → Is answer → IfOk r (λ told. Is (shown told))
told_so Is answer (Ok told) says is = subst Is (sym says) is
told_so Is answer (Err e) says is = tt

-- so where it is one only of what is known once it is told
pub told_known : {E : Type 0} (Is : Answer → Type 0) (Known : Type 0) (answer : Answer) (r : Result Told E) → IfOk r (λ told. shown told ≡ answer) → IfOk r (λ _. Known) → (Known → Is answer) → IfOk r (λ told. Is (shown told))
told_known Is Known answer (Ok told) says known is = subst Is (sym says) (is known)
told_known Is Known answer (Err e) says known is = tt

-- so where a line that isn't of the form is told
pub misread_so :
    {E : Type 0} (Is : Answer → Type 0) (Wrong : ℕ → Type 0) (fault : ReadFault) (r : Result Told E) → Faults Wrong fault
    → IfOk r (λ told. IsMisread fault (shown told)) → ((number : ℕ) → Wrong number → Is (line_answer number))
    → IfOk r (λ told. Is (shown told))
misread_so Is Wrong fault (Err e) wrong says is = tt
misread_so Is Wrong (reads.Line number) (Ok told) wrong says is = subst Is (sym says) (is number wrong)
misread_so Is Wrong reads.NoMemory (Ok told) wrong says is = absurd says

-- the log that was read
pub log_of :
    (spec : Spec) (report : List ℕ) (log : List Entry) → report ≡ report_text spec log
    → ((lines : List Line) × (log ≡ entries_of lines) × IsReportOf spec (lines_of report) lines)
    → IsReported spec log → IsLogOf spec report log
log_of spec report log text formed reported = record {
  lines = formed.0;
  log_is = formed.1;
  formed = formed.2;
  reported = reported;
  text = text;
}

module _ (spec : Spec) (fixed report : List ℕ) where
  pub unread_told : (fault : ReadFault) (told : Told) → Faults (IsFirstWrong spec (lines_of report)) fault → IsMisread fault (shown told) → IsUndoOf spec fixed report (Tells (shown told))
  unread_told fault told wrong says =
      misread_so {E = Unit {0}} (λ a. IsUndoOf spec fixed report (Tells a)) (IsFirstWrong spec (lines_of report)) fault (Ok told) wrong says unread

  module _ (log : List Entry) (log_is : IsLogOf spec report log) (held : List ℕ) (same : held ≡ fixed) where
    -- all is taken back, and what that leads to is saved
    pub back_told : (new saved : List ℕ) (told : Told) → AreTakenBack spec.base log held new → saved ≡ new → shown told ≡ undone_answer (length log) → IsUndoOf spec fixed report (Saves saved (shown told))
    back_told new saved told taken stays says =
        subst (λ bytes. IsUndoOf spec fixed report (Saves bytes (shown told))) (sym stays)
        (subst (λ a. IsUndoOf spec fixed report (Saves new a)) (sym says)
        (back log new log_is (subst (λ bytes. AreTakenBack spec.base log bytes new) same taken)))

    -- a line can't be taken back
    pub stopped_told : (reached : List ℕ) (fault : UndoFault) (told : Told) → IsRefused spec.base 1 log held reached fault → shown told ≡ refused_answer (undo_words fault) → IsUndoOf spec fixed report (Tells (shown told))
    stopped_told reached fault told refused says =
        subst (λ a. IsUndoOf spec fixed report (Tells a)) (sym says)
        (stopped log reached fault log_is (subst (λ bytes. IsRefused spec.base 1 log bytes reached fault) same refused))

module _ (spec : Spec) (choice : Choice) (image report fixed : List ℕ) (layout : Layout) (log : List Entry) (image_is : IsImageOf spec layout image) (log_is : IsLogOf spec report log) where
  -- an audited log is that of a report of a repair
  pub answer_audited : IsAudited spec choice layout image log fixed → IsAuditAnswer spec choice image report fixed (audited_answer (length log))
  answer_audited is =
      subst (λ n. IsAuditAnswer spec choice image report fixed (audited_answer n)) is.replayed.count_is
      (audited is.replayed.run (record {
        layout = layout;
        image_is = image_is;
        run_is = record { steps = is.replayed.steps; ends = is.consistent };
        text = log_is.text ∙ told_text spec log is.replayed.run is.replayed.count_is is.replayed.told;
      }))

  -- so of the image that the program holds
  module _ (held : List ℕ) (same : held ≡ image) where
    pub audited_told_so : {E : Type 0} (r : Result Told E) → IsAudited spec choice layout held log fixed → IfOk r (λ told. shown told ≡ audited_answer (length log)) → IfOk r (λ told. IsAuditAnswer spec choice image report fixed (shown told))
    audited_told_so r is says =
        told_so (IsAuditAnswer spec choice image report fixed) (audited_answer (length log)) r says
        (answer_audited (subst (λ bytes. IsAudited spec choice layout bytes log fixed) same is))

    pub fault_told_so :
        {E : Type 0} (fault : AuditFault) (r : Result Told E) → IsAuditFault spec choice layout held log fixed fault
        → IfOk r (λ told. shown told ≡ refused_answer (audit_words fault)) → IfOk r (λ _. fault ≢ faults.NoMemory)
        → IfOk r (λ told. IsAuditAnswer spec choice image report fixed (shown told))
    fault_told_so fault r is says known =
        told_known (IsAuditAnswer spec choice image report fixed) (fault ≢ faults.NoMemory) (refused_answer (audit_words fault)) r says known
        (λ never. unlike layout log fault image_is log_is never (subst (λ bytes. IsAuditFault spec choice layout bytes log fixed fault) same is))
