-- What comes of taking a repair back.
use Rattle.std.specs.Prelude.{ℕ, List, length}
use Rattle.bstr.specs.Text.{lines_of}
use Rattle.dsr_command_audit.specs.Logs.{IsLogOf}
use Rattle.dsr_command_audit.specs.ReportTexts.{line_answer, refused_answer, undo_words, undone_answer}
use Rattle.dsr_command_audit.specs.declared.undos.Undone.{Undone}
use Rattle.dsr_command_audit.specs.declared.undos.Undone.TheVariants as undone
use Rattle.dsr_command_image.specs.Repaired.{Ending, Saves, Tells}
use Rattle.dsr_ir.specs.declared.declarations.Spec.{Spec}
use Rattle.dsr_repair_theory.specs.declared.entries.Entry.{Entry}
use Rattle.dsr_report_read.specs.Forms.{IsFirstWrong}
use Rattle.dsr_script.specs.Moves.{shown}
use Rattle.dsr_undo_laws.specs.TakingBack.{AreTakenBack, IsRefused}
use Rattle.dsr_undo_laws.specs.declared.faults.UndoFault.{UndoFault}

-- The entries of the report are taken back on the fixed bytes, and what they lead to is to be
-- saved. Or the report's first line that isn't of the form is told. Or the first line, from the
-- last one on, that can't be taken back.
pub data IsUndoOf (spec : Spec) (fixed report : List ℕ) : Ending → Type 0 where
  back :
      (log : List Entry) (new : List ℕ) → IsLogOf spec report log
      → AreTakenBack spec.base log fixed new
      → IsUndoOf spec fixed report (Saves new (undone_answer (length log)))
  misread :
      (number : ℕ) → IsFirstWrong spec (lines_of report) number
      → IsUndoOf spec fixed report (Tells (line_answer number))
  stopped :
      (log : List Entry) (reached : List ℕ) (fault : UndoFault) → IsLogOf spec report log
      → IsRefused spec.base 1 log fixed reached fault
      → IsUndoOf spec fixed report (Tells (refused_answer (undo_words fault)))

-- what the program's value says
abbrev pub ending_of : Undone → Ending
ending_of (undone.Saved bytes told) = Saves bytes.items (shown told)
ending_of (undone.Unsaved told) = Tells (shown told)
