use Rattle.std.proofs.Common.{◌≡◌, map, take}
use Rattle.std.specs.Prelude.{option_map}
use Rattle.dsr_meaning.specs.Cells.{cell_value}
use Rattle.dsr_layout.proofs.fixed_fields.values_in.Given as goal

abbrev pub invariant-loop-cell : goal.invariant-loop-cell
invariant-loop-cell l = l.values.items ≡ map (option_map (cell_value l.bytes)) (take l.cell-index l.cells)
