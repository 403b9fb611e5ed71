use Rattle.dsr_chain_laws.proofs.Lengths.{least, reached}
use Rattle.dsr_chain_laws.proofs.laws.levels_are_lengths.Goals as goal

pub returns : goal.returns
returns c = record {
  reached = λ spec layout bytes kept level is set e are. reached spec layout bytes kept level are is set e;
  least = λ spec layout bytes kept level is set e are. least spec layout bytes kept level are is set e;
}
