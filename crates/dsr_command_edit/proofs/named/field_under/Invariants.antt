use Rattle.dsr_command_edit.proofs.Sought.{NoFieldBefore}
use Rattle.dsr_command_edit.proofs.named.field_under.Given as goal

abbrev pub invariant-loop-place : goal.invariant-loop-place
invariant-loop-place l = NoFieldBefore l.structure l.name l.indexed l.place
