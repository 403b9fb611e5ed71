use Rattle.std.proofs.Common.{◌≡◌, ◌+◌, length, take}
use Rattle.dsr_graph.specs.Paired.{ArePaired}
use Rattle.dsr_meaning.specs.Lists.{each_at}
use Rattle.dsr_cert.specs.Certificates.{rows_lines}
use Rattle.dsr_cert.specs.Forms.{constraint_forms}
use Rattle.dsr_cert.specs.Parts.{IsNamedRow, IsPart, texts_of}
use Rattle.dsr_cert.proofs.reading.Reader.read_rows.Given as goal

abbrev pub invariant-loop-number : goal.invariant-loop-number
invariant-loop-number l =
    IsPart l.self.spec.now (texts_of l.self.lines.now) 1 (each_at constraint_forms 0 (take l.number l.self.spec.now.constraints)) (rows_lines l.self.spec.now l.rows.items)
    × ArePaired (λ n constraint row. IsNamedRow l.self.spec.now n constraint row) (take l.number l.self.spec.now.constraints) l.rows.items
    × (l.next ≡ 1 + length (each_at constraint_forms 0 (take l.number l.self.spec.now.constraints)))
