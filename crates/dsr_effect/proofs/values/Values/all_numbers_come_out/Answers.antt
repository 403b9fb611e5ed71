-- No number passes a test of references.
use Rattle.dsr_effect.proofs.Alone.{none_passes}
use Rattle.dsr_effect.proofs.NumberTests.{passes_none}
use Rattle.dsr_effect.proofs.values.Values.all_numbers_come_out.Goals as goal

pub returns-else-not-wanted : goal.returns-else-not-wanted
returns-else-not-wanted c = rw c.if-not-wanted.false (none_passes c.args.self c.args.test c.has_no_number.result (passes_none c.args.test c.in-Legal.is) c.has_no_number.ensures)
