use Rattle.std.proofs.Common.{[], ◌∷◌, slice_get}
use Rattle.std.proofs.lemmas.Bool.Decides.{Decides-eqb}
use Rattle.std.proofs.lemmas.Slice.Eq.{strip_suffix_is}
use Rattle.dsr_cert.proofs.Saying.{line_by, text_got}
use Rattle.dsr_cert.specs.Parts.{texts_of}
use Rattle.dsr_cert.proofs.lines.line_at.Goals as goal

pub returns : goal.returns
returns c =
    let lines = c.args.lines.now in
    let line = c.in_ok-line.line.now in
    let found = c.in_ok-line.ensures.lookup in
    line_by (slice_get (texts_of lines) c.args.at) line.now (text_got lines c.args.at line found.3.0 found.1) c.strip_suffix.result
    (strip_suffix_is Decides-eqb line.now (10 ∷ []) c.strip_suffix.result c.strip_suffix.ensures.cases)
