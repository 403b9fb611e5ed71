-- The answer about a report, from what was read of it and what the audit found.
use Rattle.std.proofs.Common.{◌≡◌, ℕ, List, sym, subst}
use Rattle.bstr.specs.Text.{lines_of}
use Rattle.dsr_command_audit.proofs.Answered.{audited_told_so, fault_told_so, log_of, misread_so}
use Rattle.dsr_command_audit.specs.Audited.{IsAuditAnswer}
use Rattle.dsr_command_audit.specs.Audited.IsAuditAnswer.{misread}
use Rattle.dsr_command_audit.specs.Logs.{IsLogOf}
use Rattle.dsr_meaning.specs.Typed.{IsTyped}
use Rattle.dsr_report_read.specs.Forms.{IsFirstWrong}
use Rattle.dsr_report_read.specs.Reads.{Tells}
use Rattle.dsr_step_theory.specs.Images.{IsImageOf}
use Rattle.dsr_command_audit.proofs.audits.audit.Goals as goal

pub read-requires : goal.read-requires
read-requires c = record { typed = subst IsTyped (sym c.spec.ensures.is) c.requires.image.typed }

pub returns-in-Err : goal.returns-in-Err
returns-in-Err c =
    misread_so (IsAuditAnswer c.args.plan.now.0 c.args.plan.now.1 c.args.image.items c.args.report.now c.args.fixed.now) (IsFirstWrong c.args.plan.now.0 (lines_of c.args.report.now))
    c.in-Err.fault c.misread_told.result
    (subst (λ s. Tells (IsFirstWrong s (lines_of c.args.report.now)) c.in-Err.fault) c.spec.ensures.is c.in-Err.ensures.fault)
    c.misread_told.ensures misread

pub audit-requires : goal.audit-requires
audit-requires c = record { image = subst (IsImageOf c.args.plan.now.0 c.args.layout.now) (sym c.new-image.ensures) c.requires.image }

pub returns-in-Ok-audit : goal.returns-in-Ok-audit
returns-in-Ok-audit c =
    let log_is = subst (λ s. IsLogOf s c.args.report.now c.in-Ok.log.entries) c.spec.ensures.is
    (log_of c.spec.result.now c.args.report.now c.in-Ok.log.entries c.in-Ok.ensures.text c.in-Ok.ensures.formed c.in-Ok.ensures.reported) in
    audited_told_so c.args.plan.now.0 c.args.plan.now.1 c.args.image.items c.args.report.now c.args.fixed.now c.args.layout.now c.in-Ok.log.entries c.requires.image log_is
    c.new-image.result c.new-image.ensures c.audited_told.result c.in-Ok-audit.ensures.audited c.audited_told.ensures

pub returns : goal.returns
returns c =
    let log_is = subst (λ s. IsLogOf s c.args.report.now c.in-Ok.log.entries) c.spec.ensures.is
    (log_of c.spec.result.now c.args.report.now c.in-Ok.log.entries c.in-Ok.ensures.text c.in-Ok.ensures.formed c.in-Ok.ensures.reported) in
    fault_told_so c.args.plan.now.0 c.args.plan.now.1 c.args.image.items c.args.report.now c.args.fixed.now c.args.layout.now c.in-Ok.log.entries c.requires.image log_is
    c.new-image.result c.new-image.ensures c.in-Err-audit.fault c.audit_fault_told.result c.in-Err-audit.ensures.refused c.audit_fault_told.ensures.told c.audit_fault_told.ensures.known
