-- Where numbers aren't to be equal to one that isn't before the range, it has to be beyond.
use Rattle.dsr_effect.proofs.RangeTests.{beyond}
use Rattle.dsr_effect.proofs.values.Range.all_compare.Goals as goal

pub returns-else-number-self : goal.returns-else-number-self
returns-else-number-self c = rw c.in-Ne.is (beyond c.args.self c.args.number c.if-number-self.false)
