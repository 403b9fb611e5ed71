use Rattle.dsr_goal.proofs.Tellings.{tables_tell}
use Rattle.dsr_goal.proofs.known.Known.new.Goals as goal

pub returns : goal.returns
returns c = tables_tell c.args.spec.now c.args.quant.now _ c.known_sets-first.ensures c.known_sets-second.ensures
