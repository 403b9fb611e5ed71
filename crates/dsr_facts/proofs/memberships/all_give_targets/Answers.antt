use Rattle.std.proofs.Common.{rules, tests}
use Rattle.std.proofs.lemmas.Iterator.{YieldsList-from_slice, cases_from_all}
use Rattle.std.proofs.lemmas.Iterator.Consumers.{YieldsList-from_filter}
use Rattle.dsr_ir.specs.Rules.{gives}
use Rattle.dsr_ir.specs.declared.updates.Symbol.TheVariants.{Rel}
use Rattle.dsr_update_theory.specs.KnownSets.{GivesTargetsTo}
use Rattle.dsr_facts.proofs.Givers.{given_decides}
use Rattle.dsr_facts.proofs.memberships.all_give_targets.Goals as goal

pub returns-then-has_rules : goal.returns-then-has_rules
returns-then-has_rules c =
    given_decides c.args.spec.now (Rel c.args.rel) (GivesTargetsTo c.args.spec.now c.args.set) c.all.result (c.has_rules.ensures.0 c.if-has_rules.true)
    (cases_from_all _ _ c.all.result (GivesTargetsTo c.args.spec.now c.args.set) (λ rule. GivesTargetsTo c.args.spec.now c.args.set rule → ⊥) c.all.ensures.ran
    (YieldsList-from_filter _ (λ rule. gives (Rel c.args.rel) rule.inc) (YieldsList-from_slice c.args.spec.now.rules cc) c.filter-givers.ensures.closure (λ x b q k. search (rules, tests)))
    (λ x q k. search (rules, tests)) (λ x q k. search (rules, tests)))
