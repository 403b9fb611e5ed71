use Rattle.std.proofs.Common.{ap, sym, subst, Some, ◌∙◌, arith}
use Rattle.std.proofs.lemmas.Bool.{false≢true}
use Rattle.dsr_cert.proofs.Joined.{right_line, wrong_line}
use Rattle.dsr_cert.proofs.Saying.{ending_only, few_forms}
use Rattle.dsr_cert.specs.Certificates.{ended, last_line}
use Rattle.dsr_cert.specs.Flaws.{Tells}
use Rattle.dsr_cert.specs.Forms.{Ending, ending}
use Rattle.dsr_cert.specs.Parts.{IsFirstFrom, texts_of}
use Rattle.dsr_cert.proofs.reading.Reader.read_ending.Goals as goal

pub returns-then-not-is_line : goal.returns-then-not-is_line
returns-then-not-is_line c =
    let spec = c.args.self.now.spec.now in
    let lines = texts_of c.args.self.now.lines.now in
    subst (Tells (IsFirstFrom spec lines c.args.at)) (sym c.faulty.ensures)
    (wrong_line spec lines c.args.at Ending c.requires.stands (λ line line_is of_form. false≢true (sym c.if-not-is_line.true ∙ c.is_line.ensures.1 (line_is ∙ ap (λ l. Some (ended l)) (ending_only spec line of_form)))))

pub returns : goal.returns
returns c =
    let spec = c.args.self.now.spec.now in
    let lines = texts_of c.args.self.now.lines.now in (
      right_line spec lines c.args.at Ending last_line c.requires.stands (record { line_is = c.is_line.ensures.0 c.if-not-is_line.false; of_form = ending; named = λ n conj literal e. absurd cc }),
      tt,
    )

pub faulty-requires : goal.faulty-requires
faulty-requires c =
    let inside = c.requires.stands.inside in
    let few = few_forms c.args.self.now.spec.now c.requires.typed in
    record { small = omega (arith, inside, few) }
