use Rattle.dsr_cert.proofs.Saying.{said_by}
use Rattle.dsr_cert.specs.Parts.{texts_of}
use Rattle.dsr_cert.proofs.reading.Reader.said.Goals as goal

pub returns : goal.returns
returns c = said_by (texts_of c.args.self.now.lines.now) c.args.at c.in-Some.line.now c.args.front.now c.in-Some-behind.text.now c.in-Some.ensures c.in-Some-behind.ensures c.what_is_said.result c.what_is_said.ensures
