use Rattle.std.proofs.Common.{◌+◌, sym, subst}
use Rattle.dsr_fixed_bits.proofs.Bits.{IsSearched, IsUnchanged, found_here, searched_all, searched_more, unchanged_here}
use Rattle.dsr_fixed_bits.specs.Bits.{ChangesOneOf}
use Rattle.dsr_layout.proofs.Items.{item_at}
use Rattle.dsr_fixed_bits.proofs.changes.changes_one_of.Goals as goal

pub returns-then-changes_field : goal.returns-then-changes_field
returns-then-changes_field c =
    found_here c.args.order c.args.start c.args.fields.now c.loop-field.field-index c.loop-field.bit c.field-item.result
    (item_at c.args.fields.now c.loop-field.field-index c.field-item.result c.loop-field-test.true c.field-item.is) c.args.line.now c.loop-field.invariant c.if-changes_field.ensures

pub loop-field-preserved : goal.loop-field-preserved
loop-field-preserved c =
    let is = item_at c.args.fields.now c.loop-field.field-index c.field-item.result c.loop-field-test.true c.field-item.is in
    subst (IsSearched (IsUnchanged c.args.line.now) c.args.order c.args.start c.args.fields.now (c.loop-field.field-index + 1)) (sym c.next_bit-bit.ensures)
    (searched_more c.args.order c.args.start c.args.fields.now c.loop-field.field-index c.loop-field.bit c.field-item.result is
    (IsUnchanged c.args.line.now) c.loop-field.invariant
    (unchanged_here c.args.order c.args.start c.args.fields.now c.loop-field.field-index c.loop-field.bit c.field-item.result is c.args.line.now c.loop-field.invariant c.if-changes_field.ensures))

pub returns : goal.returns
returns c = λ (one : ChangesOneOf c.args.order c.args.start c.args.fields.now c.args.line.now).
    searched_all (IsUnchanged c.args.line.now) c.args.order c.args.start c.args.fields.now c.loop-field.field-index c.loop-field.bit c.loop-field-test.false c.loop-field.invariant one.field one.cell one.cell_is one.changes
