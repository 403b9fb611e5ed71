-- None is the only value just where it is the only reference and there is no number.
use Rattle.dsr_effect.proofs.Alone.{marks_tell, numbers_tell}
use Rattle.dsr_effect.proofs.values.Values.is_none_alone.Goals as goal

pub returns-then-has_none_alone : goal.returns-then-has_none_alone
returns-then-has_none_alone c = numbers_tell c.args.self c.has_no_number.result (c.has_none_alone.ensures.0 c.if-has_none_alone.true) c.has_no_number.ensures

pub returns-else-has_none_alone : goal.returns-else-has_none_alone
returns-else-has_none_alone c = marks_tell c.args.self c.has_none_alone.result c.if-has_none_alone.false c.has_none_alone.ensures
