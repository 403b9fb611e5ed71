use Rattle.dsr_compile.proofs.Once.{one_reading, one_refusal}
use Rattle.dsr_compile_laws.proofs.refusals_are_one.Goals as goal

pub returns : goal.returns
returns c = record { refusals = one_refusal; readings = one_reading }
