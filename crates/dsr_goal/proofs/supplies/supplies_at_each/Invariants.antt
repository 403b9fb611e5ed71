use Rattle.std.proofs.Common.{◌≡◌, take}
use Rattle.std.specs.List.{flat_map}
use Rattle.dsr_update_theory.specs.Templates.{supplies_by}
use Rattle.dsr_goal.specs.Knowing.{known_by}
use Rattle.dsr_goal.proofs.supplies.supplies_at_each.Given as goal

abbrev pub invariant-loop-var : goal.invariant-loop-var
invariant-loop-var l = l.templates.items ≡ flat_map (λ v. supplies_by l.base (known_by l.known) v l.number l.rule) (take l.var-index l.variables)
