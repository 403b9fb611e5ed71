use Rattle.std.proofs.Common.{◌≡◌, ◌++◌, drop}
use Rattle.dsr_report_read.specs.Grouped.{change_of, told_ahead}
use Rattle.dsr_report_read.proofs.entries.put_bytes.Given as goal

abbrev pub invariant-loop-line : goal.invariant-loop-line
invariant-loop-line l = l.bytes.items ++ told_ahead change_of (drop l.line-index l.lines) ≡ told_ahead change_of l.lines
