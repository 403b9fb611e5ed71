use Rattle.dsr_chain_laws.proofs.Lengths.{first_end, no_end, read_back}
use Rattle.dsr_chain_laws.proofs.laws.chains_are_read_back.Goals as goal

pub returns : goal.returns
returns c = record {
  ends = λ spec layout bytes kept level fact i are. first_end spec layout bytes kept level are fact i;
  chain = λ spec layout bytes kept level is fact are. read_back spec layout bytes kept level are is fact;
  none = λ spec layout bytes kept level fact are. no_end spec layout bytes kept level are fact;
}
