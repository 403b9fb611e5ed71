use Rattle.std.proofs.Common.{refl}
use Rattle.dsr_parse.proofs.Passing.{taken}
use Rattle.dsr_parse.proofs.Taking.{version_fits}
use Rattle.dsr_parse.proofs.reader.Reader.version_number.Goals as goal

pub returns-in-Number-clause-ok : goal.returns-in-Number-clause-ok
returns-in-Number-clause-ok c = taken c.in-Some.lexeme.now c.self.view_is c.in-Some.ensures.cases.0 refl c.in-Number.is (version_fits c.in-Number.number c.if-number-eq2.either)
