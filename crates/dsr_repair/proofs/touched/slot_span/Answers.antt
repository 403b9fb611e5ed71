-- The bytes of a slot lie in the image.
use Rattle.std.proofs.Common.{◌≤◌, ◌+◌, ◌*◌, ◌∙◌, sym, subst, arith}
use Rattle.std.proofs.lemmas.Grind.{elements}
use Rattle.dsr_update.proofs.RecordSlots.{slot_within}
use Rattle.dsr_repair.proofs.touched.slot_span.Goals as goal

pub overflow_add-result : goal.overflow_add-result
overflow_add-result c =
    let n = c.in_ok-numbers.numbers in
    let within = slot_within c.args.layout.now c.args.elem n c.requires.legal c.requires.slot (sym c.pool_numbers.ensures ∙ c.in_ok-numbers.was) in
    let inside : n.start + c.from.result * n.slot + n.slot ≤ c.args.layout.now.length =
    subst (λ s. n.start + s * n.slot + n.slot ≤ c.args.layout.now.length) (sym c.from.ensures) within in
    omega (arith, inside, c.requires.legal.small)

pub returns-clause-within : goal.returns-clause-within
returns-clause-within c =
    let n = c.in_ok-numbers.numbers in
    let within = slot_within c.args.layout.now c.args.elem n c.requires.legal c.requires.slot (sym c.pool_numbers.ensures ∙ c.in_ok-numbers.was) in
    record {
      ordered = omega arith;
      inside = subst (λ s. n.start + s * n.slot + n.slot ≤ c.args.layout.now.length) (sym c.from.ensures) within;
    }

pub overflow_mul-start : goal.overflow_mul-start
overflow_mul-start c = grind (arith, elements)

pub overflow_add-start : goal.overflow_add-start
overflow_add-start c = grind (arith, elements)
