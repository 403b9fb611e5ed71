use Rattle.dsr_report.specs.Reports.{reset_line}
use Rattle.dsr_report_read.specs.Reads.{IsPoolRecord}
use Rattle.dsr_report_read.proofs.Sought.{NoneBefore}
use Rattle.dsr_report_read.proofs.records.read_reset.Given as goal

abbrev pub invariant-loop-pool : goal.invariant-loop-pool
invariant-loop-pool l =
    NoneBefore (IsPoolRecord l.spec) (λ elem. elem.pool) (reset_line l.spec) l.text l.pool
