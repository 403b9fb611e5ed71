use Rattle.std.proofs.Common.{◌++◌, ◌∷◌, [], sym, ap, ◌∙◌, arith, rules}
use Rattle.std.proofs.lemmas.Grind.{common_steps}
use Rattle.std.proofs.lemmas.List.{map_more}
use Rattle.dsr_names.specs.Tables.{known_of}
use Rattle.dsr_language_theory.specs.TypedRules.{typed_rule}
use Rattle.dsr_rules.proofs.typed_rules.typed_rules.Goals as goal

pub loop-rule-preserved : goal.loop-rule-preserved
loop-rule-preserved c =
    c.in_ok-push.ensures.items
    ∙ (λ j. c.loop-rule.invariant j ++ (c.in_ok-entry.ensures ∙ ap (typed_rule (known_of c.args.known.now)) c.rule-item.is) j ∷ [])
    ∙ sym (map_more (typed_rule (known_of c.args.known.now)) c.args.rules.now c.loop-rule.rule-index c.rule-item.result c.loop-rule-test.true)

pub returns : goal.returns
returns c = grind (arith, common_steps)
