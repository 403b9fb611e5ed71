use Rattle.std.proofs.Common.{◌≡◌, ◌++◌, drop}
use Rattle.dsr_report_read.specs.Grouped.{set_of, told_ahead}
use Rattle.dsr_report_read.proofs.entries.put_sets.Given as goal

abbrev pub invariant-loop-line : goal.invariant-loop-line
invariant-loop-line l = l.sets.items ++ told_ahead set_of (drop l.line-index l.lines) ≡ told_ahead set_of l.lines
