use Rattle.dsr_report.specs.Reports.{set_line}
use Rattle.dsr_report_read.specs.Reads.{IsSetIn}
use Rattle.dsr_report_read.proofs.Sought.{NoneBefore}
use Rattle.dsr_report_read.proofs.sets.read_set_in.Given as goal

abbrev pub invariant-loop-place : goal.invariant-loop-place
invariant-loop-place l =
    NoneBefore (IsSetIn l.spec l.pool) (λ set. set.path.field.structure) (set_line l.spec) l.text l.place
