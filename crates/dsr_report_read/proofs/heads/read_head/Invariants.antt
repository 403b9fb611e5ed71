use Rattle.dsr_report.specs.Reports.{update_line}
use Rattle.dsr_report_read.specs.Forms.{IsHead}
use Rattle.dsr_report_read.specs.Lines.{bare}
use Rattle.dsr_report_read.proofs.Sought.{NoneBefore}
use Rattle.dsr_report_read.proofs.heads.read_head.Given as goal

abbrev pub invariant-loop-number : goal.invariant-loop-number
invariant-loop-number l =
    NoneBefore (IsHead l.spec) (λ head. head.constraint) (λ head. update_line l.spec l.count (bare head)) l.text l.number
