use Rattle.dsr_chain_laws.proofs.Firsts.{one_chain}
use Rattle.dsr_chain_laws.proofs.laws.first_chains_are_unique.Goals as goal

pub returns : goal.returns
returns c = one_chain
