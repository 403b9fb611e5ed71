use Rattle.dsr_report.specs.Reports.{set_line}
use Rattle.dsr_report_read.specs.Reads.{IsSetUnder}
use Rattle.dsr_report_read.proofs.Sought.{NoneBefore}
use Rattle.dsr_report_read.proofs.sets.read_set_under.Given as goal

abbrev pub invariant-loop-own : goal.invariant-loop-own
invariant-loop-own l =
    NoneBefore (IsSetUnder l.spec l.pool l.number) (λ set. set.path.field.field) (set_line l.spec) l.text l.own
