use Rattle.dsr_language_theory.specs.RuleFaults.{guard_faults}
use Rattle.dsr_rules.specs.Scopes.{scope_told}
use Rattle.dsr_names.proofs.Finding.{finds_next_from}
use Rattle.dsr_rules.proofs.scopes.Scope.check_more_guards.Goals as goal

pub loop-guard-preserved : goal.loop-guard-preserved
loop-guard-preserved c = finds_next_from (λ _ g. guard_faults (scope_told c.args.self.now) g) 1 c.args.guards.now c.loop-guard.guard-index c.guard-item.result c.loop-guard-test.true c.guard-item.is c.loop-guard.invariant c.check_guard.ensures
