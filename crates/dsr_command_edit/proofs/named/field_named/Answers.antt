use Rattle.std.proofs.Common.{◌≤◌, ◌∙◌, length, sym, subst}
use Rattle.dsr_command_edit.proofs.Sought.{found_first, listed_at, none_at_all, none_next}
use Rattle.dsr_command_edit.proofs.named.field_named.Goals as goal

pub field_in-found-requires-clause-declared : goal.field_in-found-requires-clause-declared
field_in-found-requires-clause-declared c =
    listed_at c.args.base.now.structures c.items-structure-items.result.now c.items-structure-items.ensures c.loop-number.number c.structure-item.result c.loop-number-test.true c.structure-item.is

pub returns-then-is_some : goal.returns-then-is_some
returns-then-is_some c =
    found_first c.args.base.now c.args.pool c.args.name.now c.args.indexed c.loop-number.number c.field_in-found.result c.loop-number.invariant c.field_in-found.ensures (sym c.is_some.ensures ∙ c.if-is_some.true)

pub loop-number-preserved : goal.loop-number-preserved
loop-number-preserved c =
    none_next c.args.base.now c.args.pool c.args.name.now c.args.indexed c.loop-number.number c.field_in-found.result c.loop-number.invariant c.field_in-found.ensures (sym c.is_some.ensures ∙ c.if-is_some.false)

pub returns : goal.returns
returns c =
    none_at_all c.args.base.now c.args.pool c.args.name.now c.args.indexed c.loop-number.number (subst (λ xs. length xs ≤ c.loop-number.number) c.items-structure-items.ensures c.loop-number-test.false) c.loop-number.invariant
