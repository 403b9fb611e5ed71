use Rattle.std.proofs.Common.{refl, ap}
use Rattle.dsr_parse.proofs.Passing.{starts_next}
use Rattle.dsr_parse.proofs.reader.Reader.starting_sign.Goals as goal

pub returns-in-Some-clause-ok : goal.returns-in-Some-clause-ok
returns-in-Some-clause-ok c = starts_next (ap (λ s. s.rest) c.self.view_is) refl c.in-Some.ensures.next c.in-Some.ensures.some
