use Rattle.std.specs.Prelude.{IsTrue}
use Rattle.dsr_meaning.proofs.Derived.{derived_least}
use Rattle.dsr_meaning.proofs.laws.models_are_least.Goals as goal

pub returns : goal.returns
returns c spec layout bytes has closed fact derived = derived_least spec layout bytes (λ f. IsTrue (has f)) closed derived.0 fact derived.1
