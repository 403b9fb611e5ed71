use Rattle.std.proofs.Common.{◌≡◌, ◌∷◌, map, take}
use Rattle.dsr_language_theory.specs.TypedRules.{typed_guard}
use Rattle.dsr_rules.specs.Scopes.{scope_told}
use Rattle.dsr_rules.proofs.scopes.Scope.typed_guard_list.Given as goal

abbrev pub invariant-loop-guard : goal.invariant-loop-guard
invariant-loop-guard l = l.typed.items ≡ map (typed_guard (scope_told l.fn.self)) (l.fn.guards.first ∷ take l.guard-index l.guard-items)
