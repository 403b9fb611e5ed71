use Rattle.std.proofs.Common.{rules, tests}
use Rattle.std.specs.List.{list_any}
use Rattle.std.proofs.lemmas.Iterator.{YieldsList-from_slice}
use Rattle.std.proofs.lemmas.Iterator.Search.{all_from_yields_List}
use Rattle.std.proofs.lemmas.Bool.Decides.{Decides-at}
use Rattle.dsr_ir.specs.contracts.rules.GuardPartialEq.TheImpl as guard
use Rattle.dsr_meaning.proofs.SameItems.{all_among}
use Rattle.dsr_facts.proofs.memberships.has_guards.Goals as goal

pub returns : goal.returns
returns c =
    Decides-at c.all.result _
    (all_from_yields_List (λ one. list_any (λ y. guard.ghosts.eq y one) c.args.rule.now.guards) _ _ c.all.result c.all.ensures.ran (YieldsList-from_slice c.args.other.now.guards cc) (λ x b q k. search (rules, tests)))
    (all_among c.args.rule.now.guards c.args.other.now.guards)
