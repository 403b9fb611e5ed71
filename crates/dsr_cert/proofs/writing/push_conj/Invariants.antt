use Rattle.std.proofs.Common.{◌≡◌, ◌++◌, take}
use Rattle.dsr_cert.specs.Certificates.{conj_lines, ended_lines}
use Rattle.dsr_cert.proofs.writing.push_conj.Given as goal

abbrev pub invariant-loop-literal : goal.invariant-loop-literal
invariant-loop-literal l = l.text.items ≡ l.fn.text.items ++ ended_lines (conj_lines l.conj (take l.literal l.ways))
