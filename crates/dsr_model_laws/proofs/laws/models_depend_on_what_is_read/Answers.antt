use Rattle.dsr_model_laws.proofs.Readings.{both_ways, chain_over, fact_over}
use Rattle.dsr_model_laws.proofs.laws.models_depend_on_what_is_read.Goals as goal

pub returns : goal.returns
returns c = record {
  facts = λ spec layout a b same fact. (fact_over spec layout a b same fact, fact_over spec layout b a (both_ways spec layout a b same) fact);
  instances = λ spec layout a b same i fact. ((λ d. (d.0, chain_over spec layout a b same d.1)), λ d. (d.0, chain_over spec layout b a (both_ways spec layout a b same) d.1));
}
