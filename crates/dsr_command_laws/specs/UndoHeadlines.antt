-- What a run says of repairs that are taken back, by the files that a shelf tells.
use Rattle.std.specs.Prelude.{◌≡◌, ◌≤◌, ◌⊎◌, ℕ, List, length, Some}
use Rattle.std.specs.FinMap.{get}
use Rattle.bstr.specs.Text.{lines_of}
use Rattle.dsr_command_audit.specs.Logs.{IsLogOf}
use Rattle.dsr_command_audit.specs.ReportTexts.{line_answer, refused_answer, undo_words, undone_answer}
use Rattle.dsr_command_laws.specs.Repairs.{IsTold}
use Rattle.dsr_command_theory.specs.Commands.{image_limit, report_limit, spec_limit}
use Rattle.dsr_words.specs.Words.{Undo, command_of}
use Rattle.dsr_ir.specs.declared.declarations.Spec.{Spec}
use Rattle.dsr_language_theory.specs.Specifications.{IsSpecificationOf}
use Rattle.dsr_repair_theory.specs.declared.entries.Entry.{Entry}
use Rattle.dsr_report_read.specs.Forms.{IsFirstWrong}
use Rattle.dsr_script.specs.Outside.{IsSaved, Outside, Stands}
use Rattle.dsr_script.specs.declared.status.Status.{Status}
use Rattle.dsr_script.specs.declared.status.Status.TheVariants.{Said}
use Rattle.dsr_script.specs.declared.status.Verdict.{Verdict}
use Rattle.dsr_script.specs.declared.status.Verdict.TheVariants as verdicts
use Rattle.dsr_store.specs.Files.{Files}
use Rattle.dsr_undo_laws.specs.TakingBack.{AreTakenBack, IsRefused}
use Rattle.dsr_undo_laws.specs.declared.faults.UndoFault.{UndoFault}

-- the words ask to take back on the fixed bytes what a report tells, and to save what comes of it
-- under the name
pub record IsToUndo (files : Files) (words : List (List ℕ)) (spec : Spec)
    (fixed report name : List ℕ) : Type 0 where
  pub spec_name : List ℕ
  pub fixed_name : List ℕ
  pub report_name : List ℕ
  pub asked : command_of words ≡ Some (Undo spec_name fixed_name report_name name)
  pub text : List ℕ
  pub spec_file : get files spec_name ≡ Some text
  pub fixed_file : get files fixed_name ≡ Some fixed
  pub report_file : get files report_name ≡ Some report
  pub short_text : length text ≤ spec_limit
  pub short_fixed : length fixed ≤ image_limit spec
  pub short_report : length report ≤ report_limit
  pub means : IsSpecificationOf text spec

-- the entries of the report lead back from the fixed bytes to these
pub record LeadsBack (spec : Spec) (fixed report : List ℕ) : Type 0 where
  pub log : List Entry
  pub is_log : IsLogOf spec report log
  pub image : List ℕ
  pub back : AreTakenBack spec.base log fixed image

-- they are saved, and the number of entries told
pub record WasUndone (spec : Spec) (fixed report name : List ℕ)
    (before after : Outside) : Type 0 where
  pub leads : LeadsBack spec fixed report
  pub saved : IsSaved before after name leads.image
  pub told : IsTold before after (undone_answer (length leads.log))

-- nothing is saved, and the first line that isn't of the form is told, or the first one, from the
-- last on, that can't be taken back
pub data WasKept (spec : Spec) (fixed report : List ℕ) (before after : Outside) : Type 0 where
  misread :
      (number : ℕ) → IsFirstWrong spec (lines_of report) number → Stands before after
      → IsTold before after (line_answer number) → WasKept spec fixed report before after
  stopped :
      (log : List Entry) (reached : List ℕ) (fault : UndoFault) → IsLogOf spec report log
      → IsRefused spec.base 1 log fixed reached fault → Stands before after
      → IsTold before after (refused_answer (undo_words fault))
      → WasKept spec fixed report before after

-- one of both was so
pub data IsUndoVerdict (spec : Spec) (fixed report name : List ℕ) (before after : Outside)
    : Verdict → Type 0 where
  undone :
      WasUndone spec fixed report name before after
      → IsUndoVerdict spec fixed report name before after verdicts.Ok
  kept :
      WasKept spec fixed report before after
      → IsUndoVerdict spec fixed report name before after verdicts.ReportRefused

abbrev pub UndoesRepairs : List (List ℕ) → Outside → Outside → Status → Type 0
UndoesRepairs words before after status =
    (files : Files) (spec : Spec) (fixed report name : List ℕ) (verdict : Verdict)
    → before.held ≡ Some files → status ≡ Said verdict
    → IsToUndo files words spec fixed report name
    → IsUndoVerdict spec fixed report name before after verdict

-- nothing is said to be undone, and no report refused, unless it was tried
abbrev pub UndoesNothingElse : List (List ℕ) → Outside → Outside → Status → Type 0
UndoesNothingElse words before after status =
    (files : Files) (spec_name fixed_name report_name name : List ℕ) (verdict : Verdict)
    → before.held ≡ Some files
    → command_of words ≡ Some (Undo spec_name fixed_name report_name name)
    → status ≡ Said verdict → (verdict ≡ verdicts.Ok) ⊎ (verdict ≡ verdicts.ReportRefused)
    → (spec : Spec) × (fixed : List ℕ) × (report : List ℕ)
    × IsToUndo files words spec fixed report name
    × IsUndoVerdict spec fixed report name before after verdict
