use Rattle.dsr_show.proofs.Next.{next_kind}
use Rattle.dsr_show.proofs.facts.fact_after.Goals as goal

pub returns-clause-kind : goal.returns-clause-kind
returns-clause-kind c = next_kind c.args.image.now.model c.args.symbol c.args.last c.after.result
    c.after.ensures.kinds c.after.ensures.next
