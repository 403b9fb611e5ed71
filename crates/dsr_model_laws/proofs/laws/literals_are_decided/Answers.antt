use Rattle.dsr_meaning.specs.Models.{IsFact}
use Rattle.dsr_model_laws.proofs.Models.{facts_listed}
use Rattle.dsr_model_laws.proofs.Truths.{literal_decided}
use Rattle.dsr_model_laws.proofs.laws.literals_are_decided.Goals as goal

pub returns : goal.returns
returns c spec layout bytes b literal = literal_decided (IsFact spec layout bytes) (facts_listed spec layout bytes) b literal
