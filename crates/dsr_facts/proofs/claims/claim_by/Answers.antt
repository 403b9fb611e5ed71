use Rattle.dsr_facts.proofs.claims.claim_by.Goals as goal

pub returns-in-Pairs : goal.returns-in-Pairs
returns-in-Pairs c = rw c.in-Pairs.is (c.claim_of_pairs.ensures c.args.spec.now)
