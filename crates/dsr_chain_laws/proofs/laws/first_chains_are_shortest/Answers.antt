use Rattle.dsr_chain_laws.proofs.Firsts.{is_shortest}
use Rattle.dsr_chain_laws.proofs.laws.first_chains_are_shortest.Goals as goal

pub returns : goal.returns
returns c = is_shortest
