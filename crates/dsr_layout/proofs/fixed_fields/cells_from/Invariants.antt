use Rattle.dsr_layout.proofs.FixedTables.{HoldsCells}
use Rattle.dsr_layout.proofs.fixed_fields.cells_from.Given as goal

abbrev pub invariant-loop-field : goal.invariant-loop-field
invariant-loop-field l = HoldsCells l.order l.fn.start l.fields l.field-index l.bit l.cells.items
