use Rattle.std.proofs.Common.{◌≡◌, ◌∙◌}
use Rattle.dsr_report_read.specs.declared.faults.ReadFault.TheVariants as faults
use Rattle.dsr_report_read.proofs.Told.{lines_told}
use Rattle.dsr_report_read.proofs.Unique.{err_told, log_back, same_fault, told_back}
use Rattle.dsr_report_read.proofs.back.read_back.Goals as goal

pub returns-clause-back : goal.returns-clause-back
returns-clause-back c =
    let few = c.many-many.ensures in
    log_back c.args.spec.now c.requires.typed c.requires.spelled c.args.log.now.entries c.requires.reported few c.deref.result.now
    (c.deref.ensures.value ∙ c.in_ok-report.ensures) c.in_ok-log.log.entries c.in_ok-log.ensures.formed

pub returns-in_err-log-clause-memory : goal.returns-in_err-log-clause-memory
returns-in_err-log-clause-memory c =
    let few = c.many-many.ensures in
    same_fault (λ fault. fault ≡ faults.NoMemory) c.in_err-log.field-0.0 c.from_residual-in_err-log.result
    (c.in_err-log.ensures.read (lines_told c.args.log.now.entries)
    (told_back c.args.spec.now c.requires.typed c.requires.spelled c.args.log.now.entries c.requires.reported few c.deref.result.now (c.deref.ensures.value ∙ c.in_ok-report.ensures)))
    c.from_residual-in_err-log.ensures.1

pub returns-in_err-report-clause-memory : goal.returns-in_err-report-clause-memory
returns-in_err-report-clause-memory c = err_told (λ fault. fault ≡ faults.NoMemory) c.from_residual.result c.from_residual.ensures.1
