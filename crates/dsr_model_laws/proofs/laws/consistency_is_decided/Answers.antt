use Rattle.dsr_meaning.specs.Models.{IsFact}
use Rattle.dsr_model_laws.proofs.Models.{facts_listed}
use Rattle.dsr_model_laws.proofs.Violations.{satisfied_decided}
use Rattle.dsr_model_laws.proofs.laws.consistency_is_decided.Goals as goal

pub returns : goal.returns
returns c spec layout bytes = satisfied_decided (IsFact spec layout bytes) (facts_listed spec layout bytes) spec
