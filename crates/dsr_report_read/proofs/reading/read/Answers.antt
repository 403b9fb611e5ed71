use Rattle.std.proofs.Common.{◌∙◌, sym, ap, subst}
use Rattle.bstr.specs.Text.{lines_of}
use Rattle.dsr_report.specs.Reports.{report_text}
use Rattle.dsr_report_read.proofs.Once.{no_fault}
use Rattle.dsr_report_read.proofs.Reported.{entries_told}
use Rattle.dsr_report_read.proofs.Whole.{text_is}
use Rattle.dsr_report_read.specs.Forms.{IsFirstWrong, IsReportOf, IsReported}
use Rattle.dsr_report_read.specs.Grouped.{entries_of}
use Rattle.dsr_report_read.specs.Reads.{Tells, texts_of}
use Rattle.dsr_report_read.proofs.reading.read.Goals as goal

pub returns-in_err-lines-clause-read : goal.returns-in_err-lines-clause-read
returns-in_err-lines-clause-read c = λ lines its.
    no_fault c.args.spec.now (lines_of c.args.text.now) lines its c.in_err-lines.field-0.0
    (subst (λ ts. Tells (IsFirstWrong c.args.spec.now ts) c.in_err-lines.field-0.0) (ap texts_of c.deref.ensures.value ∙ c.in_ok-texts.ensures) c.in_err-lines.ensures)
    c.from_residual-in_err-lines.result c.from_residual-in_err-lines.ensures.1

pub returns-clause-text : goal.returns-clause-text
returns-clause-text c =
    text_is c.args.spec.now c.args.text.now c.in_ok-lines.lines.items
    (subst (λ ts. IsReportOf c.args.spec.now ts c.in_ok-lines.lines.items) (ap texts_of c.deref.ensures.value ∙ c.in_ok-texts.ensures) c.in_ok-lines.ensures)
    ∙ ap (report_text c.args.spec.now) (sym (c.in_ok-log.ensures ∙ ap entries_of c.deref-2.ensures.value))

pub returns-clause-reported : goal.returns-clause-reported
returns-clause-reported c =
    subst (IsReported c.args.spec.now) (sym (c.in_ok-log.ensures ∙ ap entries_of c.deref-2.ensures.value))
    (entries_told c.args.spec.now (texts_of c.deref.result.now) c.in_ok-lines.lines.items c.in_ok-lines.ensures)
