use Rattle.std.proofs.Common.{sym, arith}
use Rattle.std.proofs.lemmas.Grind.{elements}
use Rattle.dsr_layout.proofs.Meanings.{few_slots, only_slot, neither, only_illegal}
use Rattle.dsr_layout.proofs.references.slot_of.Goals as goal

pub overflow_cast-result : goal.overflow_cast-result
overflow_cast-result c =
    let few = few_slots c.args.layout.now c.args.pool c.declared_pool-numbers.result c.requires.legal c.declared_pool-numbers.ensures in
    omega (arith, few, c.in-Some.ensures.found.0)

pub returns-in-Some-clause-only : goal.returns-in-Some-clause-only
returns-in-Some-clause-only c = only_slot c.args.layout.now c.args.pool c.args.value c.in-Some.slot c.declared_pool-numbers.result c.requires.legal c.declared_pool-numbers.ensures c.in-Some.ensures.found.0 c.in-Some.ensures.found.1

pub returns-in-None-clause-means : goal.returns-in-None-clause-means
returns-in-None-clause-means c = neither c.args.layout.now c.args.pool c.args.value c.declared_pool-numbers.result c.declared_pool-numbers.ensures c.if-value-numbers.false (sym c.in-None.ensures.code)

pub returns-in-None-clause-only : goal.returns-in-None-clause-only
returns-in-None-clause-only c = only_illegal c.args.layout.now c.args.pool c.args.value (neither c.args.layout.now c.args.pool c.args.value c.declared_pool-numbers.result c.declared_pool-numbers.ensures c.if-value-numbers.false (sym c.in-None.ensures.code))

pub returns-then-value-numbers-clause-only : goal.returns-then-value-numbers-clause-only
returns-then-value-numbers-clause-only c = grind (arith, elements)

pub slot_with-requires : goal.slot_with-requires
slot_with-requires c = record { step = grind (arith, elements) }
