-- The log that a report tells.
use Rattle.std.specs.Prelude.{◌≡◌, ℕ, List}
use Rattle.bstr.specs.Text.{lines_of}
use Rattle.dsr_ir.specs.declared.declarations.Spec.{Spec}
use Rattle.dsr_repair_theory.specs.declared.entries.Entry.{Entry}
use Rattle.dsr_report.specs.Reports.{report_text}
use Rattle.dsr_report_read.specs.Forms.{IsReportOf, IsReported}
use Rattle.dsr_report_read.specs.Grouped.{entries_of}
use Rattle.dsr_report_read.specs.declared.lines.Line.{Line}

-- the lines of the text are those of these entries; of fields that are named alike the first is
-- taken
pub record IsLogOf (spec : Spec) (report : List ℕ) (log : List Entry) : Type 0 where
  pub lines : List Line
  pub log_is : log ≡ entries_of lines
  pub formed : IsReportOf spec (lines_of report) lines
  pub reported : IsReported spec log
  pub text : report ≡ report_text spec log
