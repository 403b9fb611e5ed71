use Rattle.std.proofs.Common.{[], ◌∷◌, take}
use Rattle.dsr_graph.specs.Paired.{ArePaired}
use Rattle.dsr_meaning.specs.Lists.{each_at}
use Rattle.dsr_cert.specs.Certificates.{NamesWay, conj_lines}
use Rattle.dsr_cert.specs.Forms.{OfLiteral}
use Rattle.dsr_cert.specs.Parts.{AtOwner, IsPart, texts_of}
use Rattle.dsr_cert.proofs.reading.Reader.read_conj.Given as goal

-- those so far are read
abbrev pub invariant-loop-place : goal.invariant-loop-place
invariant-loop-place l =
    IsPart l.self.spec.now (texts_of l.self.lines.now) l.line (each_at (λ literal _. OfLiteral l.number l.conj literal ∷ []) 0 (take l.place l.its.literals)) (conj_lines l.conj l.ways.items)
    × AtOwner l.self.spec.now l.number (λ owner. ArePaired (λ literal its way. NamesWay owner l.conj literal its way) (take l.place l.its.literals) l.ways.items)
