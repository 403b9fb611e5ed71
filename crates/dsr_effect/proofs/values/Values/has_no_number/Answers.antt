-- A set has no number just where both ranges are empty.
use Rattle.dsr_effect.proofs.Alone.{high_tells, low_tells}
use Rattle.dsr_effect.proofs.values.Values.has_no_number.Goals as goal

pub returns-then-is_empty : goal.returns-then-is_empty
returns-then-is_empty c = high_tells c.args.self c.is_empty-then-is_empty.result (c.is_empty.ensures.0 c.if-is_empty.true) c.is_empty-then-is_empty.ensures

pub returns-else-is_empty : goal.returns-else-is_empty
returns-else-is_empty c = low_tells c.args.self c.is_empty.result c.if-is_empty.false c.is_empty.ensures
