use Rattle.std.proofs.Common.{map, ◌++◌, ◌∷◌, [], sym, ap, ◌∙◌}
use Rattle.std.proofs.lemmas.List.{map_more, take_all}
use Rattle.dsr_language_theory.specs.TypedRules.{typed_guard}
use Rattle.dsr_rules.specs.Scopes.{scope_told}
use Rattle.dsr_rules.proofs.scopes.Scope.typed_guard_list.Goals as goal

pub loop-guard-init : goal.loop-guard-init
loop-guard-init c = c.in_ok-push.ensures.items ∙ (λ j. c.new-typed.ensures.items j ++ c.typed_guard.ensures j ∷ [])

pub loop-guard-preserved : goal.loop-guard-preserved
loop-guard-preserved c =
    let typed = typed_guard (scope_told c.args.self.now) in
    c.in_ok-push-2.ensures.items
    ∙ (λ j. c.loop-guard.invariant j ++ (c.typed_guard-in-loop-guard.ensures ∙ ap typed c.guard-item.is) j ∷ [])
    ∙ sym (ap (λ gs. typed c.args.guards.now.first ∷ gs) (map_more typed c.items-guard-items.result.now c.loop-guard.guard-index c.guard-item.result c.loop-guard-test.true))

pub returns : goal.returns
returns c =
    let typed = typed_guard (scope_told c.args.self.now) in
    c.new.ensures
    ∙ c.loop-guard.invariant
    ∙ ap (λ gs. typed c.args.guards.now.first ∷ map typed gs) (take_all c.loop-guard.guard-index c.items-guard-items.result.now c.loop-guard-test.false ∙ c.items-guard-items.ensures)
