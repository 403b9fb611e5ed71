use Rattle.std.proofs.Common.{ap, subst, ◌∙◌}
use Rattle.dsr_cert.proofs.Whole.{only_all, read_all, right_all, wrong_all}
use Rattle.dsr_cert.specs.Parts.{ReadsAll, texts_of}
use Rattle.dsr_cert.proofs.reading.read_cert.Goals as goal

pub returns : goal.returns
returns c =
    let spec = c.args.spec.now in
    let text = c.args.text.now in
    let told = subst (λ lines. ReadsAll spec lines c.read.result) (ap texts_of c.deref.ensures.value ∙ c.in_ok-lines.ensures) c.read.ensures in
    record {
      choice = read_all spec text c.read.result told;
      right = right_all spec text c.read.result told;
      only = only_all spec text c.read.result told;
      fault = wrong_all spec text c.read.result told;
    }
