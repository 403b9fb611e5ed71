use Rattle.std.proofs.Common.{arith}
use Rattle.std.proofs.lemmas.Grind.{common_steps}
use Rattle.dsr_answers.specs.Texts as texts
use Rattle.dsr_cert.specs.Certificates as said
use Rattle.dsr_cert.proofs.writing.write_cert.Goals as goal

pub returns : goal.returns
returns c = grind (arith, common_steps)
