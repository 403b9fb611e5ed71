use Rattle.dsr_answers.proofs.Refusing.{RefusesMeaning, meaning_refuses, told_is}
use Rattle.dsr_answers.proofs.refusals.meaning_refused.Goals as goal

pub returns-in-At-clause-told : goal.returns-in-At-clause-told
returns-in-At-clause-told c =
    told_is (RefusesMeaning c.args.fault) _ _ c.refused.ensures
    (rw c.in-At.is (meaning_refuses c.in-At.kind c.in-At.place))
