-- The numbers of which the comparison holds that comes out as wanted, or all where a test of references has to fail.
use Rattle.dsr_effect.proofs.NumberTests.{numbers_compared, numbers_failed, passes_none}
use Rattle.dsr_effect.proofs.values.Values.numbers.Goals as goal

pub returns-in-Cmp : goal.returns-in-Cmp
returns-in-Cmp c = rw c.in-Cmp.is (numbers_compared c.comparing.result c.args.width c.in-Cmp.op c.as_wanted.result c.in-Cmp.number c.greatest-limit.result c.args.wanted c.greatest-limit.ensures c.as_wanted.ensures c.comparing.ensures)

pub returns-else-wanted : goal.returns-else-wanted
returns-else-wanted c = rw c.if-wanted.false (numbers_failed c.of_numbers.result c.args.width c.args.test c.greatest-limit.result c.greatest-limit.ensures (passes_none c.args.test c.in-Legal.is) c.of_numbers.ensures)
