use Rattle.std.proofs.Common.{slice_get}
use Rattle.std.proofs.lemmas.Bool.Decides.{Decides-eqb}
use Rattle.std.proofs.lemmas.Slice.Eq.{slice_eq-Decides}
use Rattle.dsr_cert.proofs.Saying.{line_if}
use Rattle.dsr_cert.specs.Parts.{texts_of}
use Rattle.dsr_cert.proofs.reading.Reader.is_line.Goals as goal

pub returns : goal.returns
returns c =
    line_if (slice_get (texts_of c.args.self.now.lines.now) c.args.at) c.in-Some.line.now c.args.expected.now c.in-Some.ensures c.eq.result (slice_eq-Decides Decides-eqb c.in-Some.line.now c.args.expected.now c.eq.result c.eq.ensures)
