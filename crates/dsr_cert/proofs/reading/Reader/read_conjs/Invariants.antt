use Rattle.std.proofs.Common.{◌≡◌, ◌+◌, length, take}
use Rattle.dsr_graph.specs.Paired.{ArePaired}
use Rattle.dsr_meaning.specs.Lists.{each_at}
use Rattle.dsr_cert.specs.Certificates.{conjs_lines}
use Rattle.dsr_cert.specs.Forms.{conj_forms}
use Rattle.dsr_cert.specs.Parts.{AreNamedIn, IsPart, texts_of}
use Rattle.dsr_plan_theory.specs.Plans.{owner_at}
use Rattle.dsr_cert.proofs.reading.Reader.read_conjs.Given as goal

abbrev pub invariant-loop-place : goal.invariant-loop-place
invariant-loop-place l =
    IsPart l.self.spec.now (texts_of l.self.lines.now) l.line (each_at (conj_forms l.number) 0 (take l.place l.constraint.conjs)) (conjs_lines l.rows.items)
    × ArePaired (λ conj its ways. AreNamedIn (owner_at l.self.spec.now l.number l.constraint) conj its ways) (take l.place l.constraint.conjs) l.rows.items
    × (l.next ≡ l.line + length (each_at (conj_forms l.number) 0 (take l.place l.constraint.conjs)))
