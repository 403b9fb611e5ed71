use Rattle.std.proofs.Common.{◌≡◌, drop, [], ◌∷◌, option_map, if◌then◌else◌}
use Rattle.dsr_ir.specs.Rules.{gives}
use Rattle.dsr_meaning.specs.Lists.{each_at}
use Rattle.dsr_update_theory.specs.Givers.{givers}
use Rattle.dsr_goal.specs.Raws.{only}
use Rattle.dsr_goal.proofs.Only.{only_of}
use Rattle.dsr_goal.proofs.values.only_giver.Given as goal

abbrev pub invariant-loop-number : goal.invariant-loop-number
invariant-loop-number l = only_of (option_map (λ r. (r.0, r.1.now)) l.found) (each_at (λ k rule. if gives l.symbol rule.inc then (k, rule) ∷ [] else []) l.number (drop l.number l.spec.rules)) ≡ only (givers l.spec l.symbol)
