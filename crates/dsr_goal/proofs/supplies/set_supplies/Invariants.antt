use Rattle.std.proofs.Common.{◌≡◌, take, [], if◌then◌else◌}
use Rattle.std.specs.List.{flat_map}
use Rattle.dsr_ir.specs.Rules.{gives}
use Rattle.dsr_ir.specs.declared.updates.Symbol.TheVariants.{Set}
use Rattle.dsr_meaning.specs.Lists.{each_at}
use Rattle.dsr_update_theory.specs.Templates.{is_target, supplies_by, variables}
use Rattle.dsr_goal.specs.Knowing.{known_by}
use Rattle.dsr_goal.proofs.supplies.set_supplies.Given as goal

abbrev pub invariant-loop-number : goal.invariant-loop-number
invariant-loop-number l = l.templates.items ≡ each_at (λ k rule. if gives (Set l.set) rule.inc then (if is_target rule.inc then flat_map (λ v. supplies_by l.spec.base (known_by l.known) v k rule) (variables l.quant) else []) else []) 0 (take l.number l.spec.rules)
