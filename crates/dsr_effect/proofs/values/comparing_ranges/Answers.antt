-- The numbers of two ranges, of which one may have none.
use Rattle.dsr_effect.proofs.RangeTests.{apart, only_high, only_low}
use Rattle.dsr_effect.proofs.values.comparing_ranges.Goals as goal

pub returns-in-Ne : goal.returns-in-Ne
returns-in-Ne c = rw c.in-Ne.is (apart c.below.result c.above.result c.args.number c.args.limit c.below.ensures c.above.ensures)

pub returns-in-Lt : goal.returns-in-Lt
returns-in-Lt c = rw c.in-Lt.is (only_low c.below-in-Lt.result c.below-in-Lt.ensures)

pub returns-in-Gt : goal.returns-in-Gt
returns-in-Gt c = rw c.in-Gt.is (only_high c.above-in-Gt.result c.above-in-Gt.ensures)
