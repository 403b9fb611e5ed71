use Rattle.std.proofs.Common.{ap, sym}
use Rattle.dsr_meaning.specs.Lists.{each_at}
use Rattle.dsr_language_theory.specs.RuleFaults.{guard_faults}
use Rattle.dsr_language_theory.specs.Rules.{guards_of}
use Rattle.dsr_names.proofs.Finding.{finds_same, finds_then}
use Rattle.dsr_rules.specs.Scopes.{scope_told}
use Rattle.dsr_rules.proofs.scopes.Scope.check_guards.Goals as goal

pub returns-in-Some : goal.returns-in-Some
returns-in-Some c =
    let scope = scope_told c.args.self.now in
    let more = finds_same (ap (each_at (λ _ g. guard_faults scope g) 1) c.items.ensures) c.check_more_guards.ensures in
    finds_same (ap (λ gs. each_at (λ _ g. guard_faults scope g) 0 (guards_of gs)) (sym c.in-Some.is)) (finds_then c.check_guard.ensures more)
