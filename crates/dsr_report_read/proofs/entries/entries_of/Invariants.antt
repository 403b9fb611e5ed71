use Rattle.std.proofs.Common.{◌≡◌, ◌++◌, drop}
use Rattle.dsr_report_read.specs.Grouped.{entries_of}
use Rattle.dsr_report_read.proofs.entries.entries_of.Given as goal

abbrev pub invariant-loop-place : goal.invariant-loop-place
invariant-loop-place l = l.log.entries ++ entries_of (drop l.place l.lines) ≡ entries_of l.lines
