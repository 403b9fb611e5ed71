use Rattle.std.proofs.Common.{ap, sym, map, ◌∙◌}
use Rattle.dsr_tree.specs.Trees.{field_shape}
use Rattle.dsr_struct.proofs.Fields.{field_first, field_next, field_last, in_byte}
use Rattle.dsr_struct.proofs.lookups.Names.check_fields.Goals as goal
use Rattle.dsr_struct.proofs.lookups.Names.check_fields.Goals.{then-behind_open, else-behind_open}

pub loop-j-init : goal.loop-j-init
loop-j-init c = field_first c.inherits_open-behind_open.ensures

pub bit_behind-bit-requires : goal.bit_behind-bit-requires
bit_behind-bit-requires c = in_byte c.loop-j.invariant

pub loop-j-preserved : goal.loop-j-preserved
loop-j-preserved c = field_next (ap (map field_shape) (sym c.items-field-items.ensures)) c.field-item.result c.loop-j-test.true c.field-item.is c.is_head-in_head.ensures c.loop-j.invariant c.check_field.ensures c.bit_behind-bit.ensures (elim c.if-behind_open.branch [
  | then-behind_open w ↦ rw w.if-behind_open.true (w.behind_open-is ∙ w.if-behind_open.true)
  | else-behind_open w ↦ rw w.if-behind_open.false (w.behind_open-is ∙ w.is_open-behind_open.ensures)
])

pub returns : goal.returns
returns c = field_last (ap (map field_shape) (sym c.items-field-items.ensures)) c.loop-j-test.false c.loop-j.invariant
