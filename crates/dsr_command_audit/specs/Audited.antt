-- What is answered about a report, where it is said to be that of a repair.
use Rattle.std.specs.Prelude.{◌≡◌, ◌≢◌, ℕ, List, length}
use Rattle.bstr.specs.Text.{lines_of}
use Rattle.dsr_command_audit.specs.Logs.{IsLogOf}
use Rattle.dsr_command_audit.specs.ReportTexts.{audit_words, audited_answer, line_answer, refused_answer}
use Rattle.dsr_ir.specs.declared.declarations.Spec.{Spec}
use Rattle.dsr_ir.specs.declared.layouts.Layout.{Layout}
use Rattle.dsr_plan_theory.specs.declared.choices.Choice.{Choice}
use Rattle.dsr_repair_theory.specs.Runs.{IsRun}
use Rattle.dsr_repair_theory.specs.declared.entries.Entry.{Entry}
use Rattle.dsr_repair_theory.specs.declared.turns.Outcome.TheVariants.{Consistent}
use Rattle.dsr_replay.specs.Audits.{IsAuditFault}
use Rattle.dsr_replay.specs.declared.faults.AuditFault.{AuditFault}
use Rattle.dsr_replay.specs.declared.faults.AuditFault.TheVariants as faults
use Rattle.dsr_report.specs.Reports.{report_text}
use Rattle.dsr_report_read.specs.Forms.{IsFirstWrong}
use Rattle.dsr_script.specs.Scripts.{Answer}
use Rattle.dsr_step_theory.specs.Images.{IsImageOf}

-- the report is that of the repair of the image by the plan, which ends where nothing is violated,
-- and leads to the fixed bytes
pub record IsReportOfRepair (spec : Spec) (choice : Choice) (image report fixed : List ℕ)
    (run : List Entry) : Type 0 where
  pub layout : Layout
  pub image_is : IsImageOf spec layout image
  pub run_is : IsRun spec choice layout image run fixed Consistent
  pub text : report ≡ report_text spec run

-- The report is that of such a repair, and the number of its entries is told. Or its first line
-- that isn't of the form is told. Or the first reason why it isn't that of such a repair.
pub data IsAuditAnswer (spec : Spec) (choice : Choice) (image report fixed : List ℕ)
    : Answer → Type 0 where
  audited :
      (run : List Entry) → IsReportOfRepair spec choice image report fixed run
      → IsAuditAnswer spec choice image report fixed (audited_answer (length run))
  misread :
      (number : ℕ) → IsFirstWrong spec (lines_of report) number
      → IsAuditAnswer spec choice image report fixed (line_answer number)
  unlike :
      (layout : Layout) (log : List Entry) (fault : AuditFault) → IsImageOf spec layout image
      → IsLogOf spec report log → fault ≢ faults.NoMemory
      → IsAuditFault spec choice layout image log fixed fault
      → IsAuditAnswer spec choice image report fixed (refused_answer (audit_words fault))
