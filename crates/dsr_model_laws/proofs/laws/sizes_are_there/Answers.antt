use Rattle.dsr_meaning.specs.Models.{IsFact}
use Rattle.dsr_model_laws.proofs.Models.{facts_listed}
use Rattle.dsr_model_laws.proofs.Truths.{only_size}
use Rattle.dsr_model_laws.proofs.laws.sizes_are_there.Goals as goal

pub returns : goal.returns
returns c spec layout bytes b measure has = only_size (IsFact spec layout bytes) (facts_listed spec layout bytes) b measure has
