use Rattle.std.proofs.Common.{◌+◌, [], ◌∷◌, ◌++◌, sym, ap, ◌∙◌, subst}
use Rattle.dsr_layout.specs.FixedCells.{next_bit}
use Rattle.dsr_layout.proofs.Items.{item_at}
use Rattle.dsr_layout.proofs.FixedTables.{HoldsCells, holds_more, holds_all}
use Rattle.dsr_layout.proofs.fixed_fields.cells_from.Goals as goal

pub loop-field-preserved : goal.loop-field-preserved
loop-field-preserved c =
    let fields = c.args.fields.now in
    let next = c.loop-field.field-index + 1 in
    let old = c.loop-field.cells.items in
    let is = item_at c.args.fields.now c.loop-field.field-index c.field-item.result c.loop-field-test.true c.field-item.is in
    let more = holds_more c.args.order c.args.start fields c.loop-field.field-index c.loop-field.bit old c.field-item.result is c.loop-field.invariant in
    let pushed = c.in_ok-push.ensures.items ∙ ap (λ x. old ++ x ∷ []) c.cell_from.ensures in
    subst (λ b. HoldsCells c.args.order c.args.start fields next b c.push.new.self.items) (sym c.next_bit-bit.ensures)
    (subst (λ cs. HoldsCells c.args.order c.args.start fields next (next_bit c.loop-field.bit c.field-item.result) cs) (sym pushed) more)

pub returns : goal.returns
returns c =
    let fields = c.args.fields.now in
    holds_all c.args.order c.args.start fields c.loop-field.field-index c.loop-field.bit c.loop-field.cells.items c.loop-field-test.false c.loop-field.invariant
