use Rattle.std.proofs.Common.{ap, sym, subst, Some, ◌∙◌}
use Rattle.std.proofs.lemmas.Bool.{false≢true}
use Rattle.dsr_cert.proofs.Joined.{right_line, wrong_line}
use Rattle.dsr_cert.proofs.Saying.{heading_only}
use Rattle.dsr_cert.specs.Certificates.{ended, first_line}
use Rattle.dsr_cert.specs.Flaws.{Tells}
use Rattle.dsr_cert.specs.Forms.{Heading, heading}
use Rattle.dsr_cert.specs.Parts.{IsFirstFrom, texts_of}
use Rattle.dsr_cert.proofs.reading.Reader.read_heading.Goals as goal

pub returns-then-not-is_line : goal.returns-then-not-is_line
returns-then-not-is_line c =
    let spec = c.args.self.now.spec.now in
    let lines = texts_of c.args.self.now.lines.now in
    subst (Tells (IsFirstFrom spec lines 0)) (sym c.faulty.ensures)
    (wrong_line spec lines 0 Heading c.requires.stands (λ line line_is of_form. false≢true (sym c.if-not-is_line.true ∙ c.is_line.ensures.1 (line_is ∙ ap (λ l. Some (ended l)) (heading_only spec line of_form)))))

pub returns : goal.returns
returns c =
    let spec = c.args.self.now.spec.now in
    let lines = texts_of c.args.self.now.lines.now in (
      right_line spec lines 0 Heading first_line c.requires.stands (record { line_is = c.is_line.ensures.0 c.if-not-is_line.false; of_form = heading; named = λ n conj literal e. absurd cc }),
      tt,
    )
