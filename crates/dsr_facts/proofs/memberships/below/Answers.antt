use Rattle.std.proofs.Common.{◌∙◌, ap, sym, subst, MatchOption, rules, tests, arith}
use Rattle.std.proofs.lemmas.Grind.{elements}
use Rattle.std.specs.Option.{option_map}
use Rattle.std.proofs.lemmas.Iterator.{YieldsList-from_slice}
use Rattle.std.proofs.lemmas.Iterator.Search.{find_from_yields_List}
use Rattle.dsr_ir.specs.Rules.{gives}
use Rattle.dsr_ir.specs.declared.updates.Symbol.TheVariants.{Set}
use Rattle.dsr_facts.specs.Marks.{IsBelow, IsNoneBelow}
use Rattle.dsr_facts.proofs.Givers.{below_by_rule, none_by_head}
use Rattle.dsr_facts.proofs.memberships.below.Goals as goal

pub returns-in_err-base : goal.returns-in_err-base
returns-in_err-base c =
    let first = find_from_yields_List (λ rule. gives (Set c.args.set) rule.inc) _ _ c.find.result c.find.ensures.ran (YieldsList-from_slice c.args.spec.now.rules cc) (λ x b q k. search (rules, tests)) in
    let found = sym first ∙ ap (option_map (λ y. y.now)) (c.in_ok-rule.was) in
    subst (λ o. MatchOption o (IsNoneBelow c.args.spec.now c.args.set) (IsBelow c.args.spec.now c.args.set)) (sym c.from_residual-in_err-base.ensures)
    (none_by_head c.args.spec.now c.args.set c.in_ok-rule.rule.now found (c.in_err-base.was))

pub returns : goal.returns
returns c =
    let first = find_from_yields_List (λ rule. gives (Set c.args.set) rule.inc) _ _ c.find.result c.find.ensures.ran (YieldsList-from_slice c.args.spec.now.rules cc) (λ x b q k. search (rules, tests)) in
    let found = sym first ∙ ap (option_map (λ y. y.now)) (c.in_ok-rule.was) in
    subst (λ o. MatchOption o (IsNoneBelow c.args.spec.now c.args.set) (IsBelow c.args.spec.now c.args.set)) (sym c.then_some.ensures)
    (below_by_rule c.args.spec.now c.args.set c.in_ok-base.base c.in_ok-rule.rule.now c.all_give_members.result found (c.in_ok-base.was) c.all_give_members.ensures)

pub returns-in_err-rule : goal.returns-in_err-rule
returns-in_err-rule c = grind (arith, elements)
