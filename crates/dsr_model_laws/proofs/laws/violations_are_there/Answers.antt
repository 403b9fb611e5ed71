use Rattle.dsr_meaning.specs.Models.{IsFact}
use Rattle.dsr_model_laws.proofs.Models.{facts_listed}
use Rattle.dsr_model_laws.proofs.Violations.{in_order}
use Rattle.dsr_model_laws.proofs.laws.violations_are_there.Goals as goal

pub returns : goal.returns
returns c spec layout bytes = in_order (IsFact spec layout bytes) (facts_listed spec layout bytes) spec
