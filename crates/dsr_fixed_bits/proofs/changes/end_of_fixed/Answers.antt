use Rattle.std.proofs.Common.{◌+◌, sym, subst}
use Rattle.std.specs.Prelude.{IfSome}
use Rattle.dsr_fixed_bits.proofs.Bits.{IsSearched, before_later, searched_all, searched_more, searched_still}
use Rattle.dsr_fixed_bits.specs.Bits.{IsBefore}
use Rattle.dsr_layout.proofs.Items.{item_at}
use Rattle.dsr_fixed_bits.proofs.changes.end_of_fixed.Goals as goal

pub loop-field-preserved : goal.loop-field-preserved
loop-field-preserved c =
    let is = item_at c.args.fields.now c.loop-field.field-index c.field-item.result c.loop-field-test.true c.field-item.is in
    let still = searched_still (IsBefore c.end_with-end.result) (IsBefore c.loop-field.end) c.args.order c.args.start c.args.fields.now c.loop-field.field-index c.loop-field.bit
    (before_later c.loop-field.end c.end_with-end.result c.end_with-end.ensures.further) c.loop-field.invariant in
    subst (IsSearched (IsBefore c.end_with-end.result) c.args.order c.args.start c.args.fields.now (c.loop-field.field-index + 1)) (sym c.next_bit-bit.ensures)
    (searched_more c.args.order c.args.start c.args.fields.now c.loop-field.field-index c.loop-field.bit c.field-item.result is
    (IsBefore c.end_with-end.result) still
    (subst (λ o. IfSome o (IsBefore c.end_with-end.result)) c.cell_from.ensures c.end_with-end.ensures.behind))

pub returns : goal.returns
returns c = λ k cell is. searched_all (IsBefore c.loop-field.end) c.args.order c.args.start c.args.fields.now c.loop-field.field-index c.loop-field.bit c.loop-field-test.false c.loop-field.invariant k cell is
