use Rattle.dsr_parse.proofs.Passing.{reads_unkept}
use Rattle.dsr_parse.proofs.reader.Reader.ended.Goals as goal

pub returns-in-Some-clause-ok : goal.returns-in-Some-clause-ok
returns-in-Some-clause-ok g c = reads_unkept c.in-Some.ensures.some
