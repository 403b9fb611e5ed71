-- What a run says of reports, by the files that a shelf tells.
use Rattle.std.specs.Prelude.{◌≡◌, ◌≤◌, ◌↔◌, ◌⊎◌, ℕ, List, length, Some}
use Rattle.std.specs.FinMap.{get}
use Rattle.bstr.specs.Text.{lines_of}
use Rattle.dsr_command_audit.specs.Audited.{IsReportOfRepair}
use Rattle.dsr_command_audit.specs.Logs.{IsLogOf}
use Rattle.dsr_command_audit.specs.ReportTexts.{audit_words, audited_answer, line_answer, refused_answer}
use Rattle.dsr_command_laws.specs.Repairs.{HasLayout, IsTold, WasUnlaid, WasUnplanned}
use Rattle.dsr_command_laws.specs.UndoHeadlines.{IsToUndo}
use Rattle.dsr_command_theory.specs.Commands.{image_limit, report_limit, spec_limit}
use Rattle.dsr_command_theory.specs.Plans.{HasPlan}
use Rattle.dsr_words.specs.Words.{Audit, command_of}
use Rattle.dsr_ir.specs.declared.declarations.Spec.{Spec}
use Rattle.dsr_ir.specs.declared.layouts.Layout.{Layout}
use Rattle.dsr_language_theory.specs.Specifications.{IsSpecificationOf}
use Rattle.dsr_plan_theory.specs.StuckSets.{HasNoPlan}
use Rattle.dsr_plan_theory.specs.Taken.{IsTaken}
use Rattle.dsr_plan_theory.specs.declared.choices.Choice.{Choice}
use Rattle.dsr_repair_theory.specs.declared.entries.Entry.{Entry}
use Rattle.dsr_replay.specs.Audits.{IsAuditFault}
use Rattle.dsr_replay.specs.declared.faults.AuditFault.{AuditFault}
use Rattle.dsr_report_read.specs.Forms.{IsFirstWrong}
use Rattle.dsr_script.specs.Outside.{IsSaved, Outside}
use Rattle.dsr_script.specs.declared.status.Status.{Status}
use Rattle.dsr_script.specs.declared.status.Status.TheVariants.{Said}
use Rattle.dsr_script.specs.declared.status.Verdict.{Verdict}
use Rattle.dsr_script.specs.declared.status.Verdict.TheVariants as verdicts
use Rattle.dsr_step_theory.specs.Images.{IsImageOf}
use Rattle.dsr_store.specs.Files.{Files}

-- the words ask to audit a report of the repair of an image, which is said to have left the fixed
-- bytes: the files are within their limits, and the text means the specification
pub record IsToAudit (files : Files) (words : List (List ℕ)) (spec : Spec)
    (image report fixed : List ℕ) : Type 0 where
  pub spec_name : List ℕ
  pub image_name : List ℕ
  pub report_name : List ℕ
  pub fixed_name : List ℕ
  pub asked : command_of words ≡ Some (Audit spec_name image_name report_name fixed_name)
  pub text : List ℕ
  pub spec_file : get files spec_name ≡ Some text
  pub image_file : get files image_name ≡ Some image
  pub report_file : get files report_name ≡ Some report
  pub fixed_file : get files fixed_name ≡ Some fixed
  pub short_text : length text ≤ spec_limit
  pub short_image : length image ≤ image_limit spec
  pub short_report : length report ≤ report_limit
  pub short_fixed : length fixed ≤ image_limit spec
  pub means : IsSpecificationOf text spec

-- by the plan that is taken, the report is that of the whole repair of the image, which leads to
-- the fixed bytes, and these are consistent
pub record IsSound (spec : Spec) (image report fixed : List ℕ) : Type 0 where
  pub choice : Choice
  pub taken : IsTaken spec choice
  pub run : List Entry
  pub is : IsReportOfRepair spec choice image report fixed run

-- the number of its entries is told
pub record WasAudited (spec : Spec) (image report fixed : List ℕ)
    (before after : Outside) : Type 0 where
  pub sound : IsSound spec image report fixed
  pub told : IsTold before after (audited_answer (length sound.run))

-- the first line that isn't of the form is told, or the first reason why the report isn't that of
-- such a repair
pub data WasDenied (spec : Spec) (image report fixed : List ℕ) (before after : Outside)
    : Type 0 where
  misread :
      (number : ℕ) → IsFirstWrong spec (lines_of report) number
      → IsTold before after (line_answer number) → WasDenied spec image report fixed before after
  unlike :
      (choice : Choice) (layout : Layout) (log : List Entry) (fault : AuditFault)
      → IsTaken spec choice → IsImageOf spec layout image → IsLogOf spec report log
      → IsAuditFault spec choice layout image log fixed fault
      → IsTold before after (refused_answer (audit_words fault))
      → WasDenied spec image report fixed before after

-- A verdict on a report. It says exactly whether there is a plan, where there is one whether the
-- image has a layout, and where both are there, whether the report is that of the repair.
pub record IsAuditVerdict (spec : Spec) (image report fixed : List ℕ) (before after : Outside)
    (verdict : Verdict) : Type 0 where
  pub no_plan : (verdict ≡ verdicts.PlanRefused) ↔ HasNoPlan spec
  pub no_layout : (verdict ≡ verdicts.LayoutRefused) ↔ (HasPlan spec × (HasLayout spec image → ⊥))
  pub sound : (verdict ≡ verdicts.Ok) ↔ IsSound spec image report fixed
  pub otherwise :
      HasPlan spec → HasLayout spec image
      → (verdict ≡ verdicts.Ok) ⊎ (verdict ≡ verdicts.ReportRefused)
  pub unplanned : verdict ≡ verdicts.PlanRefused → WasUnplanned spec before after
  pub unlaid : verdict ≡ verdicts.LayoutRefused → WasUnlaid spec image before after
  pub audited : verdict ≡ verdicts.Ok → WasAudited spec image report fixed before after
  pub denied :
      verdict ≡ verdicts.ReportRefused → WasDenied spec image report fixed before after

-- where the shelf tells its files and the words ask for an audit, a command that speaks gives the
-- verdict
abbrev pub AuditsReports : List (List ℕ) → Outside → Outside → Status → Type 0
AuditsReports words before after status =
    (files : Files) (spec : Spec) (image report fixed : List ℕ) (verdict : Verdict)
    → before.held ≡ Some files → status ≡ Said verdict
    → IsToAudit files words spec image report fixed
    → IsAuditVerdict spec image report fixed before after verdict

-- some report was audited, with this verdict
abbrev pub WereAudited : Files → List (List ℕ) → Outside → Outside → Verdict → Type 0
WereAudited files words before after verdict =
    (spec : Spec) × (image : List ℕ) × (report : List ℕ) × (fixed : List ℕ)
    × IsToAudit files words spec image report fixed
    × IsAuditVerdict spec image report fixed before after verdict

-- no report is said to be sound, and none to be refused, unless it was audited
abbrev pub AuditsNothingElse : List (List ℕ) → Outside → Outside → Status → Type 0
AuditsNothingElse words before after status =
    (files : Files) (spec_name image_name report_name fixed_name : List ℕ)
    → before.held ≡ Some files
    → command_of words ≡ Some (Audit spec_name image_name report_name fixed_name)
    → (status ≡ Said verdicts.Ok → WereAudited files words before after verdicts.Ok)
    × (status ≡ Said verdicts.ReportRefused
    → WereAudited files words before after verdicts.ReportRefused)

-- ---- taking back what was audited

-- Where a report is that of the repair of an image, taking it back on what that left saves the
-- image.
abbrev pub UndoesAudited : List (List ℕ) → Outside → Outside → Status → Type 0
UndoesAudited words before after status =
    (files : Files) (spec : Spec) (image fixed report name : List ℕ) (verdict : Verdict)
    → before.held ≡ Some files → status ≡ Said verdict
    → IsToUndo files words spec fixed report name → IsSound spec image report fixed
    → (verdict ≡ verdicts.Ok) × IsSaved before after name image
