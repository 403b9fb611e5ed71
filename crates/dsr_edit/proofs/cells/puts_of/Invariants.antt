use Rattle.dsr_edit.proofs.Judged.{ArePutTo}
use Rattle.dsr_edit.proofs.cells.puts_of.Given as goal

abbrev pub invariant-loop-place : goal.invariant-loop-place
invariant-loop-place l = ArePutTo l.spec l.layout l.group l.place l.puts.items
