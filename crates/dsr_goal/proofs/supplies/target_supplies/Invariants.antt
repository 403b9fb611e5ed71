use Rattle.std.proofs.Common.{◌≡◌, ◌&&◌, take, [], is_some, option_and_then, slice_get, if◌then◌else◌}
use Rattle.dsr_ir.specs.Rules.{gives}
use Rattle.dsr_ir.specs.declared.updates.Symbol.TheVariants.{Rel}
use Rattle.dsr_meaning.specs.Lists.{each_at}
use Rattle.dsr_update_theory.specs.Givers.{is_own}
use Rattle.dsr_update_theory.specs.Templates.{supplies_by}
use Rattle.dsr_goal.specs.Knowing.{known_by}
use Rattle.dsr_goal.proofs.supplies.target_supplies.Given as goal

abbrev pub invariant-loop-number : goal.invariant-loop-number
invariant-loop-number l = l.templates.items ≡ each_at (λ k rule. if gives (Rel l.rel) rule.inc then (if is_own rule.inc && is_some (option_and_then (λ r. r.target) (slice_get l.spec.base.rels l.rel)) then supplies_by l.spec.base (known_by l.known) l.var k rule else []) else []) 0 (take l.number l.spec.rules)
