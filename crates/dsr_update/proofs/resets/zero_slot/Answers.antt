-- The bytes of a slot lie in the image.
use Rattle.std.proofs.Common.{◌≤◌, ◌+◌, ◌*◌, ◌∙◌, length, sym, subst, arith}
use Rattle.std.proofs.lemmas.Grind.{elements}
use Rattle.dsr_update.proofs.RecordSlots.{slot_within}
use Rattle.dsr_update.proofs.resets.zero_slot.Goals as goal

pub zero_bytes-requires-clause-within : goal.zero_bytes-requires-clause-within
zero_bytes-requires-clause-within g c =
    let n = c.in-Some.numbers in
    let within = slot_within c.args.layout.now c.args.elem n c.requires.legal c.requires.slot (sym c.pool_numbers.ensures ∙ c.in-Some.is) in
    subst (λ s. n.start + s * n.slot + n.slot ≤ length (g.I.ImageBytes.bytes c.args.image.now)) (sym c.from.ensures)
    (subst (λ m. n.start + c.args.elem.slot * n.slot + n.slot ≤ m) (sym c.requires.long) within)

pub zero_bytes-requires-clause-small : goal.zero_bytes-requires-clause-small
zero_bytes-requires-clause-small g c =
    let n = c.in-Some.numbers in
    let within = slot_within c.args.layout.now c.args.elem n c.requires.legal c.requires.slot (sym c.pool_numbers.ensures ∙ c.in-Some.is) in
    subst (λ s. n.start + s * n.slot + n.slot ≤ 67108864) (sym c.from.ensures) (omega (arith, within, c.requires.legal.small))

pub overflow_mul-start : goal.overflow_mul-start
overflow_mul-start g c = grind (arith, elements)

pub overflow_add-start : goal.overflow_add-start
overflow_add-start g c = grind (arith, elements)
