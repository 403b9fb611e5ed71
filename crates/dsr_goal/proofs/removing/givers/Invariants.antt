use Rattle.std.proofs.Common.{◌≡◌, ℕ, ◌∷◌, [], map, take, cond}
use Rattle.dsr_ir.specs.Rules.{gives}
use Rattle.dsr_ir.specs.declared.rules.Rule.{Rule}
use Rattle.dsr_meaning.specs.Lists.{each_at}
use Rattle.dsr_goal.proofs.removing.givers.Given as goal

abbrev pub invariant-loop-number : goal.invariant-loop-number
invariant-loop-number l =
    map {B = ℕ × Rule} (λ r. (r.0, r.1.now)) l.found.items
    ≡ each_at (λ k rule. cond (gives l.symbol rule.inc) ((k, rule) ∷ []) []) 0 (take l.number l.spec.rules)
