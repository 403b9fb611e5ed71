use Rattle.std.proofs.Common.{◌≡◌, ◌<◌, ◌+◌, length, get_or, set, take, min, sym, ap, subst, ◌∙◌, arith, rules}
use Rattle.std.proofs.lemmas.Grind.{common_steps}
use Rattle.std.proofs.lemmas.List.{length-set}
use Rattle.std.specs.Vec.{with_items}
use Rattle.dsr_names.specs.Tables.{known_of}
use Rattle.dsr_constraint.proofs.Narrowest.{IsLowered, given_within, lowered_none, lowered_next}
use Rattle.dsr_constraint.proofs.widths.least_widths.Goals as goal
use Rattle.dsr_constraint.proofs.widths.least_widths.Goals.{in-Some, in_default}

pub loop-rule-preserved : goal.loop-rule-preserved
loop-rule-preserved c =
    let known = known_of c.args.known.now in
    let rules = c.args.rules.now in
    let i = c.loop-rule.rule-index in
    let rule = c.rule-item.result in
    let old = c.loop-rule.least.items in
    elim c.match-given_relation.branch [
      | in-Some w ↦
          let at = w.in-Some.relation in
          let given = sym c.given_relation.ensures ∙ w.in-Some.is in
          let within : at < length old = subst (λ n. at < n) (sym c.loop-rule.invariant.long) (given_within c.requires rule.inclusion at given) in
          let lowered : w.lower.new.items ≡ set old at (min (get_or old at 64) w.given_width.result) = w.lower.ensures ∙ ap (λ xs. set xs at (min (get_or xs at 64) w.given_width.result)) w.deref_mut.ensures.value in
          let long : length w.lower.new.items ≡ length old = ap length lowered ∙ length-set old at (min (get_or old at 64) w.given_width.result) in
          let kept : (with_items c.loop-rule.least w.lower.new.items).items ≡ w.lower.new.items = grind (arith, common_steps) in
          lowered_next known rules i rule c.loop-rule-test.true c.rule-item.is at w.given_width.result given w.given_width.ensures within (ap (λ v. v.items) w.least-is ∙ kept ∙ lowered) c.loop-rule.invariant
      | in_default w ↦
          subst (λ v. IsLowered known (take (i + 1) rules) v.items) (sym w.least-is) (lowered_none known rules i rule c.loop-rule-test.true c.rule-item.is (sym c.given_relation.ensures ∙ w.in_default.is) c.loop-rule.invariant)
    ]

pub loop-rule-init : goal.loop-rule-init
loop-rule-init c = grind (arith, common_steps)

pub returns : goal.returns
returns c = grind (arith, common_steps)
