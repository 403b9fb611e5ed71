use Rattle.std.proofs.Common.{take}
use Rattle.dsr_meaning.specs.Lists.{each_at}
use Rattle.dsr_language_theory.specs.RuleFaults.{guard_faults}
use Rattle.dsr_names.specs.Telling.{Finds}
use Rattle.dsr_rules.specs.Scopes.{scope_told}
use Rattle.dsr_rules.proofs.scopes.Scope.check_more_guards.Given as goal

abbrev pub invariant-loop-guard : goal.invariant-loop-guard
invariant-loop-guard l = Finds (each_at (λ _ g. guard_faults (scope_told l.fn.self) g) 1 (take l.guard-index l.guards)) l.fn.told.fault l.told.fault
