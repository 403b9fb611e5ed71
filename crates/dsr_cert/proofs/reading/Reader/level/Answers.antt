use Rattle.std.proofs.Common.{◌≡◌, ◌<◌, ℕ, MatchOption, slice_get, subst}
use Rattle.std.specs.Prelude.{decimal}
use Rattle.dsr_cert.proofs.Saying.{level_by}
use Rattle.dsr_cert.specs.Certificates.{level_bound}
use Rattle.dsr_cert.specs.Parts.{texts_of}
use Rattle.dsr_cert.proofs.reading.Reader.level.Goals as goal

pub returns : goal.returns
returns c =
    let digits = c.in_ok-digits.digits.now in
    let bound = level_bound c.args.self.now.spec.now in
    level_by (slice_get (texts_of c.args.self.now.lines.now) c.args.at) c.in_ok-line.line.now c.args.front.now digits c.in_ok-line.ensures c.in_ok-digits.ensures bound c.number_below.result
    (subst (λ most. MatchOption c.number_below.result ((n : ℕ) → n < most → digits ≡ decimal n → ⊥) (λ n. (n < most) × (digits ≡ decimal n))) c.level_bound.ensures c.number_below.ensures)
