use Rattle.dsr_compensate.proofs.Deciding.{keeps_if}
use Rattle.dsr_compensate.proofs.serving.keeps.Goals as goal

pub returns : goal.returns
returns c = λ change same is. keeps_if c.args.base.now c.args.effect.now c.args.direction c.args.symbol c.may_change.result change c.requires.declared same is c.may_change.ensures
