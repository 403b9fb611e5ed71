use Rattle.dsr_meaning.specs.Models.{IsFact}
use Rattle.dsr_model_laws.proofs.Active.{active_decided}
use Rattle.dsr_model_laws.proofs.Models.{facts_listed}
use Rattle.dsr_model_laws.proofs.Truths.{fact_decided}
use Rattle.dsr_model_laws.proofs.laws.facts_are_decided.Goals as goal

pub returns : goal.returns
returns c = record { facts = λ spec layout bytes. fact_decided (IsFact spec layout bytes) (facts_listed spec layout bytes); instances = active_decided }
