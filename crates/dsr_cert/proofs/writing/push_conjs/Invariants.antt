use Rattle.std.proofs.Common.{◌≡◌, ◌++◌, take}
use Rattle.dsr_meaning.specs.Lists.{each_at}
use Rattle.dsr_cert.specs.Certificates.{conj_lines, ended_lines}
use Rattle.dsr_cert.proofs.writing.push_conjs.Given as goal

abbrev pub invariant-loop-conj : goal.invariant-loop-conj
invariant-loop-conj l = l.text.items ≡ l.fn.text.items ++ ended_lines (each_at conj_lines 0 (take l.conj l.row.ways))
