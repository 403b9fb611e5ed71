use Rattle.std.proofs.Common.{◌≡◌, ◌∙◌}
use Rattle.dsr_report_read.proofs.Unique.{err_told, same_fault}
use Rattle.dsr_report_read.specs.declared.faults.ReadFault.TheVariants as faults
use Rattle.dsr_report_laws.proofs.RunsBack.{lines_are, run_back}
use Rattle.dsr_report_laws.proofs.back.read_run.Goals as goal

pub returns-clause-back : goal.returns-clause-back
returns-clause-back c =
    let few = c.many-many.ensures in
    run_back c.args.spec.now c.requires.spelled c.args.log.now.entries c.requires.run few c.deref.result.now
    (c.deref.ensures.value ∙ c.in_ok-report.ensures) c.in_ok-log.log.entries c.in_ok-log.ensures.formed

pub returns-clause-reported : goal.returns-clause-reported
returns-clause-reported c = c.in_ok-log.ensures.reported

pub read-requires : goal.read-requires
read-requires c = record { typed = c.requires.run.image.typed }

pub returns-in_err-log-clause-memory : goal.returns-in_err-log-clause-memory
returns-in_err-log-clause-memory c =
    let few = c.many-many.ensures in
    let lines = lines_are c.args.spec.now c.requires.spelled c.args.log.now.entries c.requires.run few c.deref.result.now (c.deref.ensures.value ∙ c.in_ok-report.ensures) in
    same_fault (λ fault. fault ≡ faults.NoMemory) c.in_err-log.field-0.0 c.from_residual-in_err-log.result (c.in_err-log.ensures.read lines.0 lines.1) c.from_residual-in_err-log.ensures.1

pub returns-in_err-report-clause-memory : goal.returns-in_err-report-clause-memory
returns-in_err-report-clause-memory c = err_told (λ fault. fault ≡ faults.NoMemory) c.from_residual.result c.from_residual.ensures.1
