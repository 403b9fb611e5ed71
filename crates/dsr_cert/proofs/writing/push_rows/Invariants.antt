use Rattle.std.proofs.Common.{◌≡◌, ◌++◌, take}
use Rattle.dsr_cert.specs.Certificates.{ended_lines, rows_lines}
use Rattle.dsr_cert.proofs.writing.push_rows.Given as goal

abbrev pub invariant-loop-number : goal.invariant-loop-number
invariant-loop-number l = l.text.items ≡ l.fn.text.items ++ ended_lines (rows_lines l.spec (take l.number l.rows))
