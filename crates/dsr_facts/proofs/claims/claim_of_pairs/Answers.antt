use Rattle.dsr_facts.proofs.claims.claim_of_pairs.Goals as goal

pub returns-in-Count : goal.returns-in-Count
returns-in-Count c spec = rw (c.in-Count.is, c.if-not-negated.true) (c.claim_of_size.ensures spec)
