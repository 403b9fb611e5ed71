use Rattle.dsr_report_read.specs.Reads.{texts_of}
use Rattle.dsr_report_read.proofs.Row.{AreRead}
use Rattle.dsr_report_read.proofs.reading.read_lines.Given as goal

abbrev pub invariant-loop-place : goal.invariant-loop-place
invariant-loop-place l = AreRead l.spec (texts_of l.texts) l.place l.lines.items l.state
