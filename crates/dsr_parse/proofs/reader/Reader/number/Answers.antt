use Rattle.std.proofs.Common.{refl}
use Rattle.dsr_parse.proofs.Passing.{taken}
use Rattle.dsr_parse.proofs.reader.Reader.number.Goals as goal

pub returns-in-Number-clause-ok : goal.returns-in-Number-clause-ok
returns-in-Number-clause-ok c = taken c.in-Some.lexeme.now c.self.view_is c.in-Some.ensures.cases.0 refl c.in-Number.is refl
