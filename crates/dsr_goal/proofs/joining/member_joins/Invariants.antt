use Rattle.std.proofs.Common.{◌≡◌, take, [], if◌then◌else◌}
use Rattle.dsr_ir.specs.Rules.{gives}
use Rattle.dsr_ir.specs.declared.updates.Symbol.TheVariants.{Set}
use Rattle.dsr_meaning.specs.Lists.{each_at}
use Rattle.dsr_update_theory.specs.Templates.{joins_by}
use Rattle.dsr_goal.specs.Knowing.{known_by}
use Rattle.dsr_goal.proofs.joining.member_joins.Given as goal

abbrev pub invariant-loop-number : goal.invariant-loop-number
invariant-loop-number l = l.templates.items ≡ each_at (λ k rule. if gives (Set l.set) rule.inc then joins_by l.spec.base (known_by l.known) l.var k rule else []) 0 (take l.number l.spec.rules)
