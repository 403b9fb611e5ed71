use Rattle.dsr_meaning.specs.Layouts.{layout_with}
use Rattle.dsr_layout_laws.proofs.layouts_depend_on_fixed_values.Goals as goal

pub returns : goal.returns
returns c base old new long same = λ i. layout_with (λ field. same field i) base (long i)
