use Rattle.dsr_report.specs.Reports.{set_line}
use Rattle.dsr_report_read.specs.Forms.{IsFirstSet}
use Rattle.dsr_report_read.proofs.Sought.{NoneBefore}
use Rattle.dsr_report_read.proofs.sets.read_set.Given as goal

abbrev pub invariant-loop-pool : goal.invariant-loop-pool
invariant-loop-pool l =
    NoneBefore (IsFirstSet l.spec) (λ set. set.elem.pool) (set_line l.spec) l.text l.pool
