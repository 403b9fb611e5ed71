use Rattle.std.proofs.Common.{◌≡◌, ℕ, refl, arith}
use Rattle.dsr_step_laws.proofs.Shown.{example_6, example_7}
use Rattle.dsr_step_laws.proofs.applications.exactly_one_has_applications_of_both_kinds.Goals as goal

pub returns-clause-supplied : goal.returns-clause-supplied
returns-clause-supplied c = (example_6, refl)

pub returns-clause-trimmed : goal.returns-clause-trimmed
returns-clause-trimmed c = (example_7, λ (none : ◌≡◌ {A = ℕ} 2 0). omega (arith, none))
