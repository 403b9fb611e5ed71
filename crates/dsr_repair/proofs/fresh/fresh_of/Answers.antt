-- The first slot that is no member of an avoided set.
use Rattle.std.proofs.Common.{sym, ◌∙◌, ap, option_map, arith}
use Rattle.std.proofs.lemmas.Grind.{elements}
use Rattle.std.proofs.lemmas.Bool.{false≢true}
use Rattle.dsr_repair.proofs.Taken.{first_fresh, more_taken, used_up}
use Rattle.dsr_model.specs.Facts.{IsInModel}
use Rattle.dsr_repair.proofs.fresh.fresh_of.Goals as goal

pub returns-then-not-is_taken : goal.returns-then-not-is_taken
returns-then-not-is_taken c =
    first_fresh (IsInModel c.args.model.now) c.args.spec.now c.args.layout.now c.args.pool c.in_ok-sets.sets.now c.in_ok-count.field-0
    (ap (option_map (λ sets. sets.now)) (sym c.in_ok-sets.was) ∙ c.avoided.ensures)
    (sym c.pool_numbers.ensures ∙ c.in_ok-count.was) c.loop-slot.slot c.loop-slot-test.true c.loop-slot.invariant
    (λ taken. false≢true (sym c.if-not-is_taken.true ∙ c.is_taken.ensures.1 taken))

pub loop-slot-preserved : goal.loop-slot-preserved
loop-slot-preserved c =
    more_taken (IsInModel c.args.model.now) c.args.spec.now c.args.layout.now c.args.pool c.in_ok-sets.sets.now c.in_ok-count.field-0
    (ap (option_map (λ sets. sets.now)) (sym c.in_ok-sets.was) ∙ c.avoided.ensures)
    (sym c.pool_numbers.ensures ∙ c.in_ok-count.was) c.loop-slot.slot c.loop-slot.invariant (c.is_taken.ensures.0 c.if-not-is_taken.false)

pub returns : goal.returns
returns c =
    used_up (IsInModel c.args.model.now) c.args.spec.now c.args.layout.now c.args.pool c.in_ok-sets.sets.now c.in_ok-count.field-0
    (ap (option_map (λ sets. sets.now)) (sym c.in_ok-sets.was) ∙ c.avoided.ensures)
    (sym c.pool_numbers.ensures ∙ c.in_ok-count.was) c.loop-slot.slot c.loop-slot-test.false c.loop-slot.invariant

pub overflow_cast-elem : goal.overflow_cast-elem
overflow_cast-elem c = grind (arith, elements)
