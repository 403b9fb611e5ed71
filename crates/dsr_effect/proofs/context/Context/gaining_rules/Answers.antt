use Rattle.std.proofs.Common.{◌≡◌, ◌↔◌, IsTrue, Some, arith, length, slice_get, subst, sym, ap, ◌∙◌}
use Rattle.std.proofs.lemmas.List.{length-set}
use Rattle.std.proofs.lemmas.Option.{slice_get_within}
use Rattle.dsr_effect.proofs.Gaining.{mark_more}
use Rattle.dsr_effect.proofs.ListItems.{next_in}
use Rattle.dsr_effect.specs.Contexts.{change_in}
use Rattle.dsr_effect.specs.Told.{ChangesAtW}
use Rattle.dsr_update_theory.specs.declared.effects.Direction.TheVariants.{Gain}
use Rattle.dsr_effect.proofs.context.Context.gaining_rules.Goals as goal
use Rattle.dsr_layout.proofs.Items.{item_at}

pub gains_at_w-requires-clause-among : goal.gains_at_w-requires-clause-among
gains_at_w-requires-clause-among c =
    next_in c.items-rules.result.now c.change-change.result.spec.now.rules
    (c.items-rules.ensures ∙ sym (ap (λ change. change.spec.rules) c.change-change.ensures.same))
    c.loop-number.number c.loop-number-test.true c.index-rules-number.result c.index-rules-number.is

pub loop-number-preserved : goal.loop-number-preserved
loop-number-preserved c =
    let few = c.requires.sound.typed.few_rules in
    let below = c.loop-number-test.true in
    let long = c.loop-number.invariant.0 in
    let rules_are = ap length c.items-rules.ensures in (
      length-set c.loop-number.gaining c.loop-number.number c.gains_at_w.result ∙ long,
      mark_more (λ rule. ChangesAtW (change_in c.args.self.now c.args.goal c.args.update.now) rule Gain) c.args.self.now.spec.now.rules c.loop-number.gaining c.loop-number.number c.index-rules-number.result c.gains_at_w.result
          (omega (arith, few, below, long, rules_are))
          (subst (λ rules. slice_get rules c.loop-number.number ≡ Some c.index-rules-number.result) c.items-rules.ensures (item_at c.items-rules.result.now c.loop-number.number c.index-rules-number.result below c.index-rules-number.is))
          (subst (λ change. IsTrue c.gains_at_w.result ↔ ChangesAtW change c.index-rules-number.result Gain) c.change-change.ensures.same c.gains_at_w.ensures)
          c.loop-number.invariant.1,
    )

pub returns : goal.returns
returns c = λ number rule there.
    let past = c.loop-number-test.false in
    let less = slice_get_within c.args.self.now.spec.now.rules number rule there in
    let rules_are = ap length c.items-rules.ensures in
    c.loop-number.invariant.1 number rule (omega (arith, past, less, rules_are)) there
