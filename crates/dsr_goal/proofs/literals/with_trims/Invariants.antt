use Rattle.std.proofs.Common.{◌≡◌, take}
use Rattle.dsr_update_theory.specs.Templates.{with_trims}
use Rattle.dsr_goal.proofs.literals.with_trims.Given as goal

abbrev pub invariant-loop-supply : goal.invariant-loop-supply
invariant-loop-supply l = l.templates.items ≡ with_trims (take l.supply-index l.supplied) l.trims
