use Rattle.std.proofs.Common.{arith}
use Rattle.std.proofs.lemmas.Grind.{common_steps, elements}
use Rattle.dsr_repair.proofs.notes.claim_spans.Goals as goal

pub loop-span-preserved : goal.loop-span-preserved
loop-span-preserved g c = record { bytes = grind (arith, common_steps); claimed = grind (arith, common_steps); kept = grind (arith, common_steps) }

pub returns-clause-claimed : goal.returns-clause-claimed
returns-clause-claimed g c = grind (arith, elements)
