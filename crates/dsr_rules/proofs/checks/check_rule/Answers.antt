use Rattle.std.proofs.Common.{ap}
use Rattle.dsr_meaning.specs.Lists.{each_at}
use Rattle.dsr_language_theory.specs.RuleFaults.{guard_faults, inclusion_faults, span_faults}
use Rattle.dsr_language_theory.specs.Rules.{guards_of}
use Rattle.dsr_names.proofs.Finding.{finds_same, finds_then, finds_when}
use Rattle.dsr_rules.proofs.checks.check_rule.Goals as goal

pub returns : goal.returns
returns c =
    let rule = c.args.rule.now in
    let scope = c.new-scope.ensures in
    let span = finds_same (ap (λ s. span_faults s rule.span) scope) c.check_span.ensures in
    let guards = finds_same (ap (λ s. each_at (λ _ g. guard_faults s g) 0 (guards_of rule.guards)) scope) c.check_guards.ensures in
    let inclusion = finds_same (ap (λ s. inclusion_faults s rule.inclusion) scope) c.check_inclusion.ensures in
    finds_then (finds_when _ _ c.is_over_limit.ensures c.note_if.ensures) (finds_then c.check_premise.ensures (finds_then span (finds_then guards inclusion)))
